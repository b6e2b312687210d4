-- What a well-formed program has of a procedure that is found by its number.
use Rattle.std.proofs.Common.{◌≡◌, ℕ, zero, suc, ◌^◌, ◌<◌, ◌≤◌, List, [], ◌∷◌, ◌++◌, Some, Option, Bool, true, false}
use Rattle.std.proofs.Common.{refl}
use Rattle.std.proofs.Common.{sym, ap, ◌∙◌, subst, arith}
use Rattle.std.specs.Prelude.{cond, ◌==◌, slice_get}
use Rattle.std.proofs.lemmas.Option.{same_Some, slice_get_within}
use Rattle.pli_typing.specs.TypedTree as Y
use Rattle.pli_meaning.specs.DeclaredShapes.{head_of, procedure_numbered}
use Rattle.well_formed_trees.specs.Blocks.{numbers_among, numbers_of, own_number, procedure_numbers, times}
use Rattle.well_formed_trees.specs.Every.{Every}
use Rattle.well_formed_trees.specs.Ranges.{IsLine}
use Rattle.well_formed_trees.specs.Surroundings.{level_here}
use Rattle.well_formed_trees.specs.WellFormed.{IsWellFormed, SoundProcedure, procedure_around}
use Rattle.well_formed_trees.proofs.Counts.{times_append}
use Rattle.program_places.specs.Programs.{IsReceiving}

found_by :
    (P : Y.Procedure → Type 0) (q : Bool) (p x : Y.Procedure) (o : Option Y.Procedure) → cond q (Some p) o ≡ Some x →
    P p → (o ≡ Some x → P x) → P x
found_by P true p x o e here behind = subst P (same_Some p x e) here
found_by P false p x o e here behind = behind e

pub every_found :
    (P : Y.Procedure → Type 0) (number : ℕ) (x : Y.Procedure) (ps : List Y.Procedure) →
    procedure_numbered number ps ≡ Some x → Every P ps → P x
every_found P number x [] e h = absurd (cc e)
every_found P number x (p ∷ ps) e h =
    found_by P ((head_of p.block).number == number) p x (procedure_numbered number ps) e h.0
    (λ e'. every_found P number x ps e' h.1)

-- ---- its number is none of the whole program's

times_found :
    (n number : ℕ) (x : Y.Procedure) (ps : List Y.Procedure) → procedure_numbered number ps ≡ Some x →
    times n (numbers_of x.block) ≤ times n (procedure_numbers ps)
times_found n number x [] e = absurd (cc e)
times_found n number x (p ∷ ps) e =
    let a = times_append n (numbers_of p.block) (procedure_numbers ps) in
    found_by (λ y. times n (numbers_of y.block) ≤ times n (numbers_of p.block ++ procedure_numbers ps))
    ((head_of p.block).number == number) p x (procedure_numbered number ps) e (omega (arith, a))
    (λ e'. let less = times_found n number x ps e' in omega (arith, a, less))

own_some :
    (number : ℕ) (ns : List ℕ) → number ≡ 0 → 1 ≤ times 0 (number ∷ ns)
own_some number ns e = subst (λ m. 1 ≤ times 0 (m ∷ ns)) (sym e) (omega arith)

positive :
    (number : ℕ) → (number ≡ 0 → ⊥) → 1 ≤ number
positive zero h = absurd (h refl)
positive (suc n) h = omega arith

number_positive :
    (program : Y.Program) (head : Y.BlockHead) (body : Y.Stmts) {parameters : List ℕ} (result : Option Y.LeafType) →
    IsWellFormed program → IsReceiving program head body parameters result → head.kind ≡ Y.ProcedureBlock →
    1 ≤ head.number
number_positive program head body {parameters} result well is kind =
    positive head.number
    (λ zero'.
    let all = times_found 0 head.number _ program.procedures is in
    let own : 1 ≤ times 0 (own_number head head.kind ++ numbers_among body) =
    subst (λ k. 1 ≤ times 0 (own_number head k ++ numbers_among body)) (sym kind)
    (own_some head.number (numbers_among body) zero') in
    let none = well.numbers.not_outermost in
    absurd (omega (arith, all, own, none)))

-- ---- what it has

pub record Known (program : Y.Program) (head : Y.BlockHead) : Type 0 where
  pub kind : head.kind ≡ Y.ProcedureBlock
  pub line : head.line < 2 ^ 31
  pub level : head.level < 16

pub known :
    (program : Y.Program) (head : Y.BlockHead) (body : Y.Stmts) {parameters : List ℕ} (result : Option Y.LeafType) →
    IsWellFormed program → IsReceiving program head body parameters result → Known program head
known program head body {parameters} result well is =
    let h = every_found (SoundProcedure well.table program) head.number _ program.procedures is well.procedures in
    let same : head ≡ h.head = ap head_of h.is in
    let kind : head.kind ≡ Y.ProcedureBlock =
    subst (λ (u : Y.BlockHead). u.kind ≡ Y.ProcedureBlock) (sym same) h.kind in
    let listed : slice_get well.table head.number ≡ Some (procedure_around head h.body h.outer) =
    subst (λ (u : Y.BlockHead). slice_get well.table u.number ≡ Some (procedure_around u h.body h.outer)) (sym same)
    h.listed in
    let entry = well.entries head.number (number_positive program head body result well is kind)
    (slice_get_within well.table head.number _ listed) in
    let level = ap level_here (same_Some _ _ (sym listed ∙ entry.entry)) in
    let shallow = entry.shallow in
    record {
      kind = kind;
      line = subst (λ (u : Y.BlockHead). IsLine u.line) (sym same) h.line;
      level = omega (arith, level, shallow);
    }
