-- Extents that members keep, one by one.
use Rattle.std.specs.Prelude.{List, [], ◌∷◌, Option, Some, None}
use Rattle.pli_typing.specs.Generations.{Kept, is_named, kept_extent}
use Rattle.pli_language.specs.Tree.{Size, StarSize, Given}
use Rattle.pli_language.specs.Declarations.{Held}
use Rattle.pli_typing.specs.TypedTree as Y
use Rattle.pli_typing.specs.Variables.{amount_of, index_where, leaves_in, written_extents}
use Rattle.pli_language.specs.View.{extent_of, name_of}
use Rattle.pli_variables.specs.declared.refer.Kept.{Kept as KeptHeld}

abbrev pub kept_shown : KeptHeld → Kept
kept_shown k = record { member = name_of k.member.now; extent = extent_of k.extent.now }

abbrev pub first_kept : List Kept → Option Kept
first_kept [] = None
first_kept (k ∷ ks) = Some k

-- what a length keeps
abbrev pub kept_in_size : Option Size → List Kept
kept_in_size (Some (Given e)) = kept_extent e
kept_in_size (Some (StarSize p)) = []
kept_in_size None = []

-- the member that keeps an extent, and what ALLOCATE sets it to
abbrev pub refer_kept : List Held → Kept → Y.ReferMember
refer_kept all k = record { member = index_where (is_named k.member) (leaves_in all); amount = amount_of (written_extents all) k.extent }
