-- The texts with which variables begin, in the meaning: a constant as the variable keeps it, or blank or empty by an asterisk.
use Rattle.std.proofs.Common.{◌≡◌, ℕ, zero, suc, ◌-◌, ◌≤◌, List, [], ◌∷◌, length, Bool, true, false, refl, sym, ap, ◌∙◌}
use Rattle.std.specs.Prelude.{cond, take, nat_lt}
use Rattle.pli_language.specs.Tree as T
use Rattle.pli_meaning.specs.BasicValues.{BasicText}
use Rattle.pli_meaning.specs.Contents.{initial_at, initial_of, seen}
use Rattle.pli_headline.specs.ProvedSoFar.{IsConstantOf, AreConstants, text_leaf}
use Rattle.pli_headline.proofs.Scalars.{constant_text, begin_text}
use Rattle.pli_headline.proofs.TextPlaces.{text_kind_of}
use Rattle.pli_headline.proofs.TextsKept.{text_kept_as, fitted_length, fitted_alone, all_taken, blanks_taken}

-- a text of 1,024 bytes at most, or an asterisk
abbrev pub IsTextConstant : T.InitialValue → Type 0
IsTextConstant (T.InitialText t) = length t ≤ 1024
IsTextConstant T.InitialSkip = Unit {0}
IsTextConstant _ = ⊥

pub text_constant : (varying : Bool) (most : ℕ) (v : T.InitialValue) → IsConstantOf (text_leaf varying most) v → IsTextConstant v
text_constant false most (T.InitialText t) h = h
text_constant true most (T.InitialText t) h = h
text_constant false most T.InitialSkip h = tt
text_constant true most T.InitialSkip h = tt
text_constant false most _ h = absurd h
text_constant true most _ h = absurd h

-- what INITIAL gives the element at a place
pub given_at : (varying : Bool) (most : ℕ) (items : List T.InitialItem) (p : ℕ) → AreConstants (text_leaf varying most) items → IsTextConstant (initial_at items p)
given_at varying most [] p h = tt
given_at varying most (i ∷ more) p h =
    by_test (nat_lt p i.repetition) (given_at varying most more (p - i.repetition) h.1.1)
  where
    by_test : (q : Bool) → IsTextConstant (initial_at more (p - i.repetition)) → IsTextConstant (cond q i.value (initial_at more (p - i.repetition)))
    by_test true later = text_constant varying most i.value h.1.0
    by_test false later = later

-- ---- one constant

none_taken : (n : ℕ) → take {A = ℕ} n [] ≡ []
none_taken zero = refl
none_taken (suc n) = refl

pub constant_begun : (varying : Bool) (most : ℕ) (v : T.InitialValue) → IsTextConstant v → initial_of (text_kind_of varying most) v ≡ BasicText (text_kept_as varying most (constant_text v))
constant_begun false most (T.InitialText t) h = ap BasicText (fitted_alone most t)
constant_begun true most (T.InitialText t) h = refl
constant_begun false most T.InitialSkip h = ap BasicText (sym (blanks_taken most))
constant_begun true most T.InitialSkip h = ap BasicText (sym (none_taken most))
constant_begun false most _ h = absurd h
constant_begun true most _ h = absurd h

pub kept_is_seen : (varying : Bool) (most : ℕ) (t : List ℕ) → seen (text_kind_of varying most) (BasicText (text_kept_as varying most t)) ≡ BasicText (text_kept_as varying most t)
kept_is_seen false most t = ap BasicText (all_taken most (text_kept_as false most t) (fitted_length most t))
kept_is_seen true most t = refl

-- ---- the first one

first_begun : (varying : Bool) (most : ℕ) (items : List T.InitialItem) → AreConstants (text_leaf varying most) items → initial_of (text_kind_of varying most) (initial_at items 0) ≡ BasicText (text_kept_as varying most (constant_text (initial_at items 0)))
first_begun varying most items h =
    constant_begun varying most (initial_at items 0) (given_at varying most items 0 h)

pub text_begun : (varying : Bool) (most : ℕ) (items : List T.InitialItem) → AreConstants (text_leaf varying most) items → initial_of (text_kind_of varying most) (initial_at items 0) ≡ BasicText (begin_text (text_leaf varying most) items)
text_begun false most items h = first_begun false most items h
text_begun true most items h = first_begun true most items h

-- as it is seen
pub text_seen : (varying : Bool) (most : ℕ) (items : List T.InitialItem) → AreConstants (text_leaf varying most) items → seen (text_kind_of varying most) (initial_of (text_kind_of varying most) (initial_at items 0)) ≡ BasicText (begin_text (text_leaf varying most) items)
text_seen false most items h =
    ap (seen (text_kind_of false most)) (first_begun false most items h) ∙ kept_is_seen false most (constant_text (initial_at items 0))
text_seen true most items h =
    ap (seen (text_kind_of true most)) (first_begun true most items h) ∙ kept_is_seen true most (constant_text (initial_at items 0))
