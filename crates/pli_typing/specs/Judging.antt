-- Judgements: what a part of the tree comes to, with all the rules of typing that it breaks.
--
-- A part that breaks a rule comes to something of its kind all the same, so that what stands around it is judged as if the
-- rule were kept; only what has no kind is none. What stands in for a broken part is never seen: a source with a broken rule
-- has no typed tree.
use Rattle.std.specs.Prelude.{ℕ, Bool, true, false, List, [], ◌∷◌, ◌++◌}
use Rattle.pli_language.specs.declared.expr.Place.{Place}
use Rattle.pli_language.specs.declared.fault.SourceFault.{SourceFault}
use Rattle.pli_language.specs.declared.fault.SourceKind.{SourceKind}
use Rattle.pli_language.specs.Refusals.{fault}
use Rattle.pli_language.specs.Declarations.{Block}
use Rattle.pli_typing.specs.TypedTree as Y

-- where a part stands: the blocks of its program, and the number of the innermost around it
pub record Scope : Type 0 where
  pub blocks : List Block
  pub block : ℕ

-- what an expression contains, as far as an extent may not
pub data Mention : Type 0 where
  MentionsFunction : Mention
  MentionsVariable : Y.Variable → Mention

pub record Judged (X : Type 0) : Type 0 where
  pub faults : List SourceFault
  pub mentions : List Mention
  pub value : X

-- what keeps the rules
abbrev pub fine : {X : Type 0} → X → Judged X
fine x = record { faults = []; mentions = []; value = x }

-- what breaks one, with what stands in for it
abbrev pub broken : {X : Type 0} → Place → SourceKind → X → Judged X
broken place kind x = record { faults = fault place kind ∷ []; mentions = []; value = x }

abbrev pub demand : Bool → Place → SourceKind → Judged (Unit {0})
demand true place kind = fine tt
demand false place kind = broken place kind tt

abbrev pub mention : Mention → Judged (Unit {0})
mention m = record { faults = []; mentions = m ∷ []; value = tt }

-- what comes behind a judgement, with all that both break
abbrev pub after : {X Z : Type 0} → Judged X → Judged Z → Judged Z
after j k = record { faults = j.faults ++ k.faults; mentions = j.mentions ++ k.mentions; value = k.value }

abbrev pub ◌>>=◌ : {X Z : Type 0} → Judged X → (X → Judged Z) → Judged Z
j >>= next = after j (next j.value)

infixl 20 ◌>>=◌
abbrev pub ◌>>◌ : {X Z : Type 0} → Judged X → Judged Z → Judged Z
j >> k = after j k

infixl 20 ◌>>◌
abbrev pub each : {X Z : Type 0} → (X → Judged Z) → List X → Judged (List Z)
each judge [] = fine []
each judge (x ∷ xs) = do
  y ← judge x
  ys ← each judge xs
  fine (y ∷ ys)
