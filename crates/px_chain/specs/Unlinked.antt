-- What the cells of an unlink say.
use Rattle.std.specs.Prelude.{List, ◌∷◌, ◌++◌, map}
use Rattle.px_chain.specs.declared.unlinking.Unlinked.{Unlinked}
use Rattle.px_chain.specs.Links.{content_of, pointer_content}
use Rattle.px_chain.specs.Table.{Content}

abbrev pub contents_of : Unlinked → List Content
contents_of unlinked = Content.header_is unlinked.header ∷ (map content_of unlinked.slots.items ++ pointer_content unlinked.pointer)
