-- Tokens are within the limits: their lines, their numbers, and the texts that they spell.
use Rattle.std.proofs.Common.{◌≡◌, ℕ, ◌≤◌, ◌==◌, List, [], ◌∷◌, ◌++◌, ◌∙◌, length, take, refl, sym, subst, arith}
use Rattle.std.specs.Prelude.{◌^◌, slice_range, ⊤}
use Rattle.std.proofs.lemmas.List.{length-take, append_assoc}
use Rattle.std.proofs.lemmas.List.Sums.{count_by-le-length}
use Rattle.pli_language.specs.declared.token.Kind.{Kind}
use Rattle.pli_language.specs.declared.token.Kind.TheVariants as K
use Rattle.pli_language.specs.declared.token.Token.{Token}
use Rattle.pli_language.specs.Spells.{Takes}
use Rattle.pli_language.specs.Tokens.{IsTextOf, IsShort, Reads, no_more, one_more, Tokens, line_after}
use Rattle.pli_language.proofs.Unique.{text_same}
use Rattle.well_formed_trees.specs.Every.{Every}
use Rattle.well_formed_trees.specs.Ranges.{IsLine, IsConstant, IsLength}

-- what a token's kind and bytes may be
abbrev pub KindFits : List ℕ → Kind → Type 0
KindFits w (K.Number n) = IsConstant n
KindFits w K.Text = (v : List ℕ) → IsTextOf v w → IsLength (length v)
KindFits w _ = ⊤

pub record IsFitting (s : List ℕ) (t : Token) : Type 0 where
  pub line : IsLine t.line
  pub kind : KindFits (slice_range s t.start t.end) t.kind

-- tokens that end others, all of which fit
pub record AllFit (s : List ℕ) (all ts : List Token) : Type 0 where
  pub each : Every (IsFitting s) ts
  pub before : List Token
  pub is_end : all ≡ before ++ ts

short_fits : (w : List ℕ) (k : Kind) → IsShort k w → KindFits w k
short_fits w (K.Number n) h = omega (arith, h)
short_fits w K.Text h =
    λ v spelled. subst (λ v. IsLength (length v)) (text_same (refl {a = w}) h.1 spelled) h.2
short_fits w (K.Name word) h = tt
short_fits w (K.Bit b) h = tt
short_fits w (K.Symbol x) h = tt

line_fits : (s : List ℕ) (n line : ℕ) → length s ≤ 2 ^ 20 → line ≡ line_after (take n s) → IsLine line
line_fits s n line few e =
    let a = count_by-le-length (λ b. b == 10) (take n s) in
    let b = length-take n s in
    omega (arith, few, e, a, b)

read_fit : {s : List ℕ} {p q : ℕ} {ts : List Token} → length s ≤ 2 ^ 20 → Reads s p ts q → Every (IsFitting s) ts
read_fit few (no_more p) = tt
read_fit {s} few (one_more p q t ts low blanks at more) = (
  record {
    line = line_fits s t.start t.line few at.line_is;
    kind = short_fits (slice_range s t.start t.end) t.kind at.short;
  },
  read_fit few more,
)

pub tokens_fit : (s : List ℕ) (ts : List Token) → Tokens s ts → AllFit s ts ts
tokens_fit s ts h = record { each = read_fit h.bytes h.reads; before = []; is_end = refl }

-- they end themselves
pub from_here : {s : List ℕ} {all ts : List Token} → AllFit s all ts → AllFit s ts ts
from_here h = record { each = h.each; before = []; is_end = refl }

-- ---- the first of them

apart : {s : List ℕ} {all : List Token} {t : Token} {ts : List Token} → AllFit s all (t ∷ ts)
    → IsFitting s t × AllFit s all ts
apart {t = t} {ts = ts} h = (
  h.each.0,
  record { each = h.each.1; before = h.before ++ t ∷ []; is_end = h.is_end ∙ sym (append_assoc h.before (t ∷ []) ts) },
)

pub first_fits : {s : List ℕ} {all ts rest : List Token} {t : Token} → ts ≡ t ∷ rest → AllFit s all ts
    → IsFitting s t × AllFit s all rest
first_fits {s} {all = all} e h = apart (subst (AllFit s all) e h)

pub behind : {s : List ℕ} {all ts rest : List Token} {k : Kind} {t : Token} → Takes ts k t rest
    → AllFit s all ts
    → AllFit s all rest
behind taken h = (first_fits taken.is h).1

pub line_of : {s : List ℕ} {all ts rest : List Token} {k : Kind} {t : Token} → Takes ts k t rest
    → AllFit s all ts
    → IsLine t.line
line_of taken h = (first_fits taken.is h).0.line

pub number_fits : {s : List ℕ} {all ts rest : List Token} {t : Token} {n : ℕ}
    → Takes ts (K.Number n) t rest → AllFit s all ts
    → IsConstant n
number_fits {s} {t = t} taken h =
    subst (KindFits (slice_range s t.start t.end)) taken.of_kind (first_fits taken.is h).0.kind

pub text_fits : {s : List ℕ} {all ts rest : List Token} {t : Token} {v : List ℕ} → Takes ts K.Text t rest
    → IsTextOf v (slice_range s t.start t.end) → AllFit s all ts → IsLength (length v)
text_fits {s} {t = t} {v = v} taken spelled h =
    subst (KindFits (slice_range s t.start t.end)) taken.of_kind (first_fits taken.is h).0.kind v spelled
