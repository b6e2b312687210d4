-- REFER extents that fit, by what is read of signatures.
use Rattle.std.proofs.Common.{◌≡◌, ◌<◌, ◌≤◌, ℕ, zero, suc, ℤ, List, [], ◌∷◌, get_or, length, map, Option, Some, None, Bool, true, false, refl, sym, ap, ◌∙◌, arith}
use Rattle.std.specs.Prelude.{◌&&◌, slice_get}
use Rattle.pli_typing.specs.Signatures.{Bounds, Leaf}
use Rattle.pli_types.specs.Templates.{OpenLeaf, leaf_so_far}
use Rattle.pli_types.specs.View.{leaf_of}
use Rattle.pli_types.specs.declared.signature.Leaf as P
use Rattle.pli_serving.specs.AreaServices.{bounds_take, extent_fits, kind_keeps, last_takes, leaf_keeps}
use Rattle.pli_allocation.specs.Beginnings.{fits_by, takes_by}
use Rattle.pli_allocation.specs.Referring.{first_lower, last_of}

abbrev all_so_far : List P.Leaf → List Leaf
all_so_far ls = map leaf_so_far (map leaf_of ls)

pub keeps_some : (z : ℤ) (ls : List P.Leaf) (member : ℕ) (l : P.Leaf) → member < length ls → l ≡ get_or ls member l → leaf_keeps z (slice_get (all_so_far ls) member) ≡ kind_keeps z (leaf_so_far (leaf_of l)).kind
keeps_some z [] member l h e = absurd (omega (arith, h))
keeps_some z (x ∷ ls) zero l h e = ap (λ (l : P.Leaf). kind_keeps z (leaf_so_far (leaf_of l)).kind) (sym e)
keeps_some z (x ∷ ls) (suc n) l h e = keeps_some z ls n l (omega (arith, h)) e

pub keeps_none : (z : ℤ) (ls : List P.Leaf) (member : ℕ) → length ls ≤ member → leaf_keeps z (slice_get (all_so_far ls) member) ≡ false
keeps_none z [] member h = refl
keeps_none z (x ∷ ls) zero h = absurd (omega (arith, h))
keeps_none z (x ∷ ls) (suc n) h = keeps_none z ls n (omega (arith, h))

-- ---- the last leaf

takes_bounds : (z : ℤ) (bounds : List Bounds) → bounds_take z bounds ≡ takes_by z (first_lower bounds)
takes_bounds z [] = refl
takes_bounds z (b ∷ bs) = refl

last_is : (z : ℤ) (l : Leaf) (ls : List Leaf) → last_takes z (l ∷ ls) ≡ takes_by z (first_lower (last_of (l ∷ ls)).bounds)
last_is z l [] = takes_bounds z l.bounds
last_is z l (m ∷ ls) = last_is z m ls

pub fits_is : (z : ℤ) (leaves : List Leaf) (member : ℕ) → extent_fits z leaves (Some member) ≡ fits_by z leaves member
fits_is z [] member = refl
fits_is z (l ∷ ls) member = ap (λ t. leaf_keeps z (slice_get (l ∷ ls) member) && t) (last_is z l ls)
