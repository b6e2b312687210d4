-- What judgements in turn come to, step by step.
use Rattle.std.proofs.Common.{◌≡◌, ◌∙◌, Option, sym, ap, ap₂}
use Rattle.pli_typing.specs.Assigning.{Scalar, scalar_operand}
use Rattle.pli_typing.specs.Converting.{Operand}
use Rattle.pli_typing.specs.Generations.{judged_if}
use Rattle.pli_typing.specs.Judging.{Judged, Scope, ◌>>=◌}
use Rattle.pli_typing.specs.References.{operand, referred}
use Rattle.pli_typing.specs.SingleStatements.{Turns, condition, number_at, turns, turns_with}
use Rattle.pli_language.specs.Tree as T
use Rattle.pli_typing.specs.TypedTree as Y
use Rattle.pli_operand.specs.Notes.{Noted, noted}
use Rattle.pli_operand.proofs.Noting.{noted_append}

then_noted : {X Z : Type 0} (n m k : Noted) (j : Judged X) (f : X → Judged Z) (x : X) → m ≡ noted n j → x ≡ j.value → k ≡ noted m (f x) → k ≡ noted n (j >>= f)
then_noted n m k j f x e h g = g ∙ ap₂ (λ p y. noted p (f y)) e h ∙ sym (noted_append n j.faults (f j.value).faults j.mentions (f j.value).mentions)

then_value : {X Z : Type 0} (j : Judged X) (f : X → Judged Z) (x : X) (z : Z) → x ≡ j.value → z ≡ (f x).value → z ≡ (j >>= f).value
then_value j f x z h g = g ∙ ap (λ y. (f y).value) h

-- what DO says of its turns, from each of its parts on
abbrev from_condition : Scope → T.Counting → Operand → Option Scalar → Operand → Option Y.Number → Option Y.Number → Judged Turns
from_condition s c o v b l t = judged_if (condition s) c.condition >>= λ w. turns_with o.place v b l t w

abbrev from_step : Scope → T.Counting → Operand → Option Scalar → Operand → Option Y.Number → Judged Turns
from_step s c o v b l = judged_if (number_at s) c.step >>= λ t. from_condition s c o v b l t

abbrev from_limit : Scope → T.Counting → Operand → Option Scalar → Operand → Judged Turns
from_limit s c o v b = judged_if (number_at s) c.limit >>= λ l. from_step s c o v b l

abbrev from_start : Scope → T.Counting → Operand → Option Scalar → Judged Turns
from_start s c o v = operand s c.start >>= λ b. from_limit s c o v b

abbrev from_variable : Scope → T.Counting → Operand → Judged Turns
from_variable s c o = scalar_operand o >>= λ v. from_start s c o v

pub turns_noted : (s : Scope) (c : T.Counting) (n₀ n₁ n₂ n₃ n₄ n₅ n₆ n₇ : Noted) (o : Operand) (v : Option Scalar) (b : Operand) (l t : Option Y.Number) (w : Option Y.Bit) → n₁ ≡ noted n₀ (referred s c.variable) → o ≡ (referred s c.variable).value → n₂ ≡ noted n₁ (scalar_operand o) → v ≡ (scalar_operand o).value → n₃ ≡ noted n₂ (operand s c.start) → b ≡ (operand s c.start).value → n₄ ≡ noted n₃ (judged_if (number_at s) c.limit) → l ≡ (judged_if (number_at s) c.limit).value → n₅ ≡ noted n₄ (judged_if (number_at s) c.step) → t ≡ (judged_if (number_at s) c.step).value → n₆ ≡ noted n₅ (judged_if (condition s) c.condition) → w ≡ (judged_if (condition s) c.condition).value → n₇ ≡ noted n₆ (turns_with o.place v b l t w) → n₇ ≡ noted n₀ (turns s c)
turns_noted s c n₀ n₁ n₂ n₃ n₄ n₅ n₆ n₇ o v b l t w e₁ h₁ e₂ h₂ e₃ h₃ e₄ h₄ e₅ h₅ e₆ h₆ e₇ =
    then_noted n₀ n₁ n₇ (referred s c.variable) (from_variable s c) o e₁ h₁
    (then_noted n₁ n₂ n₇ (scalar_operand o) (from_start s c o) v e₂ h₂
    (then_noted n₂ n₃ n₇ (operand s c.start) (from_limit s c o v) b e₃ h₃
    (then_noted n₃ n₄ n₇ (judged_if (number_at s) c.limit) (from_step s c o v b) l e₄ h₄
    (then_noted n₄ n₅ n₇ (judged_if (number_at s) c.step) (from_condition s c o v b l) t e₅ h₅
    (then_noted n₅ n₆ n₇ (judged_if (condition s) c.condition) (turns_with o.place v b l t) w e₆ h₆ e₇)))))

pub turns_value : (s : Scope) (c : T.Counting) (x : Turns) (o : Operand) (v : Option Scalar) (b : Operand) (l t : Option Y.Number) (w : Option Y.Bit) → o ≡ (referred s c.variable).value → v ≡ (scalar_operand o).value → b ≡ (operand s c.start).value → l ≡ (judged_if (number_at s) c.limit).value → t ≡ (judged_if (number_at s) c.step).value → w ≡ (judged_if (condition s) c.condition).value → x ≡ (turns_with o.place v b l t w).value → x ≡ (turns s c).value
turns_value s c x o v b l t w h₁ h₂ h₃ h₄ h₅ h₆ g =
    then_value (referred s c.variable) (from_variable s c) o x h₁
    (then_value (scalar_operand o) (from_start s c o) v x h₂
    (then_value (operand s c.start) (from_limit s c o v) b x h₃
    (then_value (judged_if (number_at s) c.limit) (from_step s c o v b) l x h₄
    (then_value (judged_if (number_at s) c.step) (from_condition s c o v b l) t x h₅
    (then_value (judged_if (condition s) c.condition) (turns_with o.place v b l t) w x h₆ g)))))
