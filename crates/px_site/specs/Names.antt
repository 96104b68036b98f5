-- File names: when two are one, their order, and their texts.
use Rattle.std.specs.Prelude.{ℕ, ◌≡◌, ◌≢◌, ◌^◌, ◌<◌, ◌≤◌, Bool, nat_eq, nat_lt, ◌&&◌, ◌||◌, List, ◌++◌, length, slice_index, codes, decimal, ⊤}
use Rattle.px_site.specs.declared.name.FileName.{FileName}
use Rattle.px_site.specs.declared.name.FileName.TheVariants.{Rec, Row, Dlog, Xlog, Restart, Index, Ilog}

-- the place of a name's kind in the order of kinds
abbrev pub kind : FileName → ℕ
kind (Rec n) = 0
kind (Row n) = 1
kind (Dlog n) = 2
kind (Xlog n) = 3
kind (Restart n) = 4
kind Index = 5
kind Ilog = 6

abbrev pub number : FileName → ℕ
number (Rec n) = n
number (Row n) = n
number (Dlog n) = n
number (Xlog n) = n
number (Restart n) = n
number Index = 0
number Ilog = 0

-- both are the name of one file
abbrev pub same_file : FileName → FileName → Bool
same_file a b = nat_eq (kind a) (kind b) && nat_eq (number a) (number b)

-- a comes before b: by kind, and then by number
abbrev pub is_before : FileName → FileName → Bool
is_before a b = nat_lt (kind a) (kind b) || (nat_eq (kind a) (kind b) && nat_lt (number a) (number b))

-- a name's text
abbrev pub file_text : FileName → List ℕ
file_text (Rec table) = codes "rec-" ++ decimal table
file_text (Row table) = codes "row-" ++ decimal table
file_text (Dlog n) = codes "dlog-" ++ decimal n
file_text (Xlog n) = codes "xlog-" ++ decimal n
file_text (Restart n) = codes "restart-" ++ decimal n
file_text Index = codes "index"
file_text Ilog = codes "ilog"

-- a store has such a file: tables are 1 to 8, logs begin at 1, and there are two restart files
abbrev pub IsOurs : FileName → Type 0
IsOurs (Rec table) = (1 ≤ table) × (table ≤ 8)
IsOurs (Row table) = (1 ≤ table) × (table ≤ 8)
IsOurs (Dlog n) = (1 ≤ n) × (n < 2 ^ 32)
IsOurs (Xlog n) = (1 ≤ n) × (n < 2 ^ 32)
IsOurs (Restart n) = n ≤ 1
IsOurs Index = ⊤
IsOurs Ilog = ⊤

-- a text begins with neither a plus nor a zero that other digits follow
pub record IsPlain (text : List ℕ) : Type 0 where
  pub no_plus : slice_index text 0 ≢ 43
  pub no_zeros : slice_index text 0 ≡ 48 → length text ≡ 1
