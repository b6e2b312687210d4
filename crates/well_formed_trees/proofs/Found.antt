-- What a name means is a declaration of its letters, in a block around.
use Rattle.std.proofs.Common.{◌≡◌, ℕ, zero, suc, ◌+◌, Bool, true, false, List, [], ◌∷◌, Option, Some, None, refl}
use Rattle.std.proofs.Common.{sym, ap, ◌∙◌, subst, if◌then◌else◌, arith, inl, inr}
use Rattle.std.specs.Prelude.{slice_get, ◌⊎◌}
use Rattle.pli_language.specs.declared.scope.Found.{Found}
use Rattle.pli_language.specs.declared.scope.Found.TheVariants as F
use Rattle.pli_language.specs.declared.scope.DeclarationAt.{DeclarationAt}
use Rattle.pli_language.specs.Keywords.{same_bytes}
use Rattle.pli_language.specs.Declarations.{Block, Declaration}
use Rattle.pli_language.specs.Means.{qualifiers_of, is_match, is_full_match, places, chosen, means_in, or_else, means}
use Rattle.pli_language.specs.Means.{means_from, declarations_of, around_of, is_part, same_names}
use Rattle.well_formed_trees.specs.Every.{Every}
use Rattle.well_formed_trees.proofs.Letters.{first_true, same_equal}
use Rattle.well_formed_trees.proofs.DeclaredOnce.{IsIn}

abbrev pub IsAmong : ℕ → List ℕ → Type 0
IsAmong n [] = ⊥
IsAmong n (m ∷ ms) = (m ≡ n) ⊎ IsAmong n ms

pub every_among : (P : ℕ → Type 0) (n : ℕ) (ns : List ℕ) → Every P ns → IsAmong n ns → P n
every_among P n [] h i = absurd i
every_among P n (m ∷ ms) h (inl e) = subst P e h.0
every_among P n (m ∷ ms) h (inr i) = every_among P n ms h.1 i

-- a declaration that is meant, of one of the blocks around
pub record FoundAt (blocks : List Block) (around : List ℕ) (last : List ℕ) (at : DeclarationAt) : Type 0 where
  pub declaration : Declaration
  pub is_in : IsIn blocks at.block at.index declaration
  pub letters : last ≡ declaration.name.letters
  pub block_around : IsAmong at.block around

-- ---- a place where a test holds

record Holds (test : Declaration → Bool) (from : ℕ) (ds : List Declaration) (i : ℕ) : Type 0 where
  place : ℕ
  is : i ≡ from + place
  element : Declaration
  has : slice_get ds place ≡ Some element
  holds : test element ≡ true

further : (test : Declaration → Bool) (from : ℕ) (d : Declaration) (ds : List Declaration) (is : List ℕ)
    → Every (Holds test (from + 1) ds) is → Every (Holds test from (d ∷ ds)) is
further test from d ds [] h = tt
further test from d ds (i ∷ is) h =
    let k = h.0 in
    let e = k.is in (
      record {
        place = suc k.place;
        is = omega (arith, e);
        element = k.element;
        has = k.has;
        holds = k.holds;
      },
      further test from d ds is h.1,
    )

all_hold : (test : Declaration → Bool) (from : ℕ) (ds : List Declaration)
    → Every (Holds test from ds) (places test from ds)
all_hold test from [] = tt
all_hold test from (d ∷ ds) =
    by (test d) refl (further test from d ds (places test (from + 1) ds) (all_hold test (from + 1) ds)) where
      by : (b : Bool) → test d ≡ b → Every (Holds test from (d ∷ ds)) (places test (from + 1) ds)
          → Every (Holds test from (d ∷ ds))
          (if b then from ∷ places test (from + 1) ds else places test (from + 1) ds)
      by true e h =
          (record { place = zero; is = omega arith; element = d; has = refl; holds = e }, h)
      by false e h = h

-- ---- in one block

record FoundIn (last : List ℕ) (number : ℕ) (ds : List Declaration) (at : DeclarationAt) : Type 0 where
  element : Declaration
  has : slice_get ds at.index ≡ Some element
  letters : last ≡ element.name.letters
  block : at.block ≡ number

one_is : (a b : DeclarationAt) → F.One a ≡ F.One b → a ≡ b
one_is a b e = cc e

found_by : (last : List ℕ) (number : ℕ) (ds : List Declaration) (i : ℕ) (at : DeclarationAt)
    (test : Declaration → Bool) → ((d : Declaration) → test d ≡ true → last ≡ d.name.letters) → Holds test 0 ds i
    → F.One (record { block = number; index = i }) ≡ F.One at → FoundIn last number ds at
found_by last number ds i at test k h e =
    let s = one_is (record { block = number; index = i }) at e in
    let index : i ≡ at.index = ap (λ (x : DeclarationAt). x.index) s in
    let is = h.is in
    let same : h.place ≡ at.index = omega (arith, is, index) in
    record {
      element = h.element;
      has = ap (slice_get ds) (sym same) ∙ h.has;
      letters = k h.element h.holds;
      block = sym (ap (λ (x : DeclarationAt). x.block) s);
    }

found_in : (qualifiers : List (List ℕ)) (last : List ℕ) (number : ℕ) (ds : List Declaration) (at : DeclarationAt)
    → means_in qualifiers last number ds ≡ F.One at → FoundIn last number ds at
found_in qualifiers last number ds at e =
    by (places full 0 ds) (places match_is 0 ds) (all_hold full 0 ds) (all_hold match_is 0 ds) e where
      full : Declaration → Bool
      full d = is_full_match qualifiers last d

      match_is : Declaration → Bool
      match_is d = is_match qualifiers last d

      full_letters : (d : Declaration) → full d ≡ true → last ≡ d.name.letters
      full_letters d e =
          same_equal last d.name.letters
          (first_true (same_bytes last d.name.letters) (same_names qualifiers (qualifiers_of d.what)) e)

      match_letters : (d : Declaration) → match_is d ≡ true → last ≡ d.name.letters
      match_letters d e =
          same_equal last d.name.letters
          (first_true (same_bytes last d.name.letters) (is_part qualifiers (qualifiers_of d.what)) e)

      by : (fulls matches : List ℕ) → Every (Holds full 0 ds) fulls → Every (Holds match_is 0 ds) matches
          → chosen number fulls matches ≡ F.One at → FoundIn last number ds at
      by (i ∷ more) ms h k e = found_by last number ds i at full full_letters h.0 e
      by [] [] h k e = absurd (cc e)
      by [] (i ∷ []) h k e = found_by last number ds i at match_is match_letters k.0 e
      by [] (i ∷ j ∷ ms) h k e = absurd (cc e)

-- ---- in the blocks around

of_block : (blocks : List Block) (number : ℕ) (last : List ℕ) (at : DeclarationAt) (o : Option Block)
    → slice_get blocks number ≡ o → FoundIn last number (declarations_of o) at → (around : List ℕ)
    → IsAmong number around → FoundAt blocks around last at
of_block blocks number last at None e f around k = absurd (none f.has) where
  none : {d : Declaration} → slice_get [] at.index ≡ Some d → ⊥
  none e = absurd (cc e)
of_block blocks number last at (Some b) e f around k = record {
  declaration = f.element;
  is_in = record { block = b; has_block = ap (slice_get blocks) f.block ∙ e; has = f.has };
  letters = f.letters;
  block_around = subst (λ n. IsAmong n around) (sym f.block) k;
}

found_from : (blocks : List Block) (around : List ℕ) (qualifiers : List (List ℕ)) (last : List ℕ) (at : DeclarationAt)
    → means_from blocks around qualifiers last ≡ F.One at → FoundAt blocks around last at
unfolding means_from
found_from blocks [] qualifiers last at e = absurd (cc e)
found_from blocks (n ∷ ns) qualifiers last at e =
    by (means_in qualifiers last n (declarations_of (slice_get blocks n))) refl e
    (found_from blocks ns qualifiers last at) where
      by : (f : Found) → means_in qualifiers last n (declarations_of (slice_get blocks n)) ≡ f
          → or_else f (means_from blocks ns qualifiers last) ≡ F.One at
          → (means_from blocks ns qualifiers last ≡ F.One at → FoundAt blocks ns last at)
          → FoundAt blocks (n ∷ ns) last at
      by (F.One d) g e k =
          of_block blocks n last at (slice_get blocks n) refl
          (found_in qualifiers last n (declarations_of (slice_get blocks n)) at (g ∙ e)) (n ∷ ns) (inl refl)
      by F.Ambiguous g e k = absurd (cc e)
      by F.None g e k =
          let f = k e in
          record {
            declaration = f.declaration;
            is_in = f.is_in;
            letters = f.letters;
            block_around = inr f.block_around;
          }

pub found_at : (blocks : List Block) (number : ℕ) (qualifiers : List (List ℕ)) (last : List ℕ) (at : DeclarationAt)
    → means blocks number qualifiers last ≡ F.One at
    → FoundAt blocks (around_of (slice_get blocks number)) last at
found_at blocks number qualifiers last at e =
    found_from blocks (around_of (slice_get blocks number)) qualifiers last at e
