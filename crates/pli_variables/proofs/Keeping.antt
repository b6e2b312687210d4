-- The first extent that a member keeps.
use Rattle.std.proofs.Common.{◌≡◌, List, [], ◌∷◌, ◌++◌, Option, Some, None, refl}
use Rattle.std.proofs.lemmas.List.{drop_all, map-append}
use Rattle.std.proofs.lemmas.List.Concat.{flat_map-append}
use Rattle.pli_declare.proofs.Chains.{drop_here}
use Rattle.pli_typing.specs.Generations.{Kept, kept_in, kept_in_attribute, refer_among, refer_of}
use Rattle.pli_language.specs.Tree.{Size, StarSize, Given, Character}
use Rattle.pli_variables.specs.Kept.{first_kept, kept_in_size, refer_kept}
use Rattle.std.specs.List.{flat_map}
use Rattle.pli_language.specs.Declarations.{Held}
use Rattle.pli_language.specs.View.{option_of}
use Rattle.pli_variables.proofs.Grouping.{leaves_on}
use Rattle.pli_variables.proofs.Amounts.{index_here, index_on}

-- the first answer, if there is one
abbrev or_else : Option Kept → Option Kept → Option Kept
or_else None other = other
or_else (Some k) other = Some k

pub first_in_two : (xs ys : List Kept) → first_kept (xs ++ ys) ≡ or_else (first_kept xs) (first_kept ys)
first_in_two [] ys = refl
first_in_two (x ∷ xs) ys = refl

pub in_text : (size : Option Size) → kept_in_attribute (Character size) ≡ kept_in_size size
in_text None = refl
in_text (Some (StarSize p)) = refl
in_text (Some (Given e)) = refl

pub ruleset keeping = (drop_here, drop_all, map-append, flat_map-append, first_in_two, in_text)

-- ---- the member

pub refer_is : (all : List Held) → refer_of all ≡ option_of (refer_kept all) (first_kept (flat_map kept_in all))
refer_is all = go (flat_map kept_in all)
  where
    go : (ks : List Kept) → refer_among all ks ≡ option_of (refer_kept all) (first_kept ks)
    go [] = refl
    go (k ∷ ks) = refl

pub ruleset members = (drop_here, drop_all, leaves_on, index_here, index_on)
