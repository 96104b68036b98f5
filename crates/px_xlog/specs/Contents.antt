-- Which file the log is.
use Rattle.px_site.specs.declared.name.FileName.{FileName}
use Rattle.px_site.specs.declared.name.FileName.TheVariants.{Xlog}

-- until there are segments, the log is one file
abbrev pub the_log : FileName
the_log = Xlog 1
