-- DO with a variable and without TO and BY: an assignment, and then one turn at most.
use Rattle.std.proofs.Common.{◌≡◌, ℕ, ◌+◌, ◌^◌, ◌<◌, ◌≤◌, List, ◌++◌, Option, None, Some, refl, sym, ap, ◌∙◌, subst, arith}
use Rattle.std.proofs.lemmas.List.{append_assoc}
use Rattle.rv_meaning.specs.declared.instr.Instr.{Instr}
use Rattle.pli_typing.specs.TypedTree as Y
use Rattle.pli_meaning.specs.World.{counted}
use Rattle.pli_meaning.specs.BasicValues.{BasicValue}
use Rattle.pli_meaning.specs.StorageState.{State}
use Rattle.pli_meaning.specs.Control as F
use Rattle.pli_meaning.specs.Control.{Flow, Normal, Jump, Return, Paused, Stuck, flow_on, Meaning, act, ◌>>=◌, ◌>>◌}
use Rattle.pli_meaning.specs.Raising.{Around, at_line}
use Rattle.pli_meaning.specs.Evaluating as V
use Rattle.pli_meaning.specs.Executing as M
use Rattle.pli_coding.specs.Assembly.{Code, size_of}
use Rattle.pli_coding.specs.Allocating.{act_code}
use Rattle.pli_coding.specs.Environments.{Environment}
use Rattle.pli_coding.specs.Storing.{assignment_code}
use Rattle.pli_coding.specs.Statements.{once_code, stmt_code, stmts_code}
use Rattle.pli_coding.specs.Linking.{Links}
use Rattle.temporary_bounds.specs.WordBounds.{bit_if}
use Rattle.temporary_bounds.specs.Spare.{spare}
use Rattle.pli_headline.specs.ProvedSoFar.{Names, Types, IsProvedBitIf}
use Rattle.run_steps.specs.Engine.{address}
use Rattle.run_steps.proofs.Linking.{size_append}
use Rattle.run_steps.proofs.Jumps.{front_of, back_of}
use Rattle.pli_headline.proofs.Statements.{Standing, Block, further, Does}
use Rattle.pli_headline.proofs.Ifs.{tested_does}
use Rattle.pli_headline.proofs.Since.{since_closed, comes_since}
use Rattle.run_steps.proofs.Temporaries.{stays_then}
use Rattle.run_steps.specs.Reach.{Comes}
use Rattle.run_steps.proofs.Reach.{before_closed, comes_on}

-- ---- one part behind another

pub sequence_does : {e : Environment} {block : Names} {types : Types} {bl : Block e block types} {links : Links} {code : List Instr} {turns : ℕ} (p q : Code) (first second : Meaning (Unit {0})) → Does bl links code turns p first → Does bl links code turns q second → Does bl links code turns (p ++ q) (first >> second)
unfolding ◌>>◌
sequence_does p q first second one two =
    record {
      does = λ {i} {s} {v} {h} {t} {aims} closed line n f k l serving all at goal more.
          let size = size_append p q in
          let place : i + size_of p + size_of q ≡ i + size_of (p ++ q) = omega (arith, size) in
          let next' : Unit {0} → Meaning (Unit {0}) = λ u. second in
          comes_on k (first k s) next'
          (comes_since (first k s)
          (one.does (since_closed v.world.acts (before_closed k next' closed)) line n f k (front_of p q l) serving all at
          (λ s2 v2 line2 n2 h2 t2 f2 serving2 all2 stays2 at2 grown.
          two.does closed line2 n2 f2 k (back_of p q l) serving2 all2 at2
          (λ s3 v3 line3 n3 h3 t3 f3 serving3 all3 stays3 at3.
          subst (λ u. aims.done u f3 v3 tt s3) (sym place)
          (goal s3 v3 line3 n3 h3 t3 f3 serving3 all3 (stays_then stays2 stays3) (λ b. record { pc = (at3 b).pc ∙ ap (address b) place; holds = (at3 b).holds })))
          (further more (omega arith) grown stays2)) more));
    }

-- the same meaning
pub means_same : {e : Environment} {block : Names} {types : Types} {bl : Block e block types} {links : Links} {code : List Instr} {turns : ℕ} {p : Code} (first second : Meaning (Unit {0})) → ((k : ℕ) (s : State) → first k s ≡ second k s) → Does bl links code turns p first → Does bl links code turns p second
means_same {code = code} first second same d =
    record {
      does = λ {i} {s} {v} {h} {t} {aims} closed line n f k l serving all at goal more.
          subst (Comes code i f v aims) (same k s) (d.does closed line n f k l serving all at goal more);
    }

flows_joined : {P Q R : Type 0} (k : ℕ) (x : Flow P) (f : P → Meaning Q) (g : Q → Meaning R) → flow_on k (flow_on k x f) g ≡ flow_on k x (λ p k' s'. flow_on k' (f p k' s') g)
flows_joined k (Normal p s) f g = refl
flows_joined k (Jump height label s) f g = refl
flows_joined k (Return x s) f g = refl
flows_joined k (F.Ended s) f g = refl
flows_joined k (Paused s) f g = refl
flows_joined k Stuck f g = refl

-- ---- the statement

once_meant : (around : Around) (target : Y.Reference) (start : Y.Stored) (condition : Option Y.Bit) (body : Y.Stmts) (line : ℕ) (k : ℕ) (s : State) → ((M.statement around (Y.Assign target start line)) >> (M.once (at_line around line) condition (M.list_with around (M.labels_in body) (M.statements around body)))) k s ≡ M.statement around (Y.DoOnce target start condition body line) k s
unfolding M.statement ◌>>=◌ ◌>>◌
once_meant around target start condition body line k s =
    let here = at_line around line in
    let last : Unit {0} → Meaning (Unit {0}) = λ u. M.once here condition (M.list_with around (M.labels_in body) (M.statements around body)) in
    let store : BasicValue → Meaning (Unit {0}) = λ v. M.assigned here target v in
    let value : Unit {0} → Meaning (Unit {0}) = λ u. (V.stored_value here start) >>= store in
    flows_joined k (act counted k s) value last
    ∙ (λ i. flow_on k (act counted k s) (λ u k' s'. flows_joined k' (V.stored_value here start k' s') store last i))

by_condition : {e : Environment} {block : Names} {types : Types} (bl : Block e block types) (links : Links)
    (code : List Instr) (turns : ℕ) (routines : Standing bl links code) (around : Around) (condition : Option Y.Bit)
    (line : ℕ) (c : Code) (body : Meaning (Unit {0})) → IsProvedBitIf block types condition
    → bl.taken.words + bit_if condition ≤ bl.words + spare bl.taken → line < 2 ^ 31 → Does bl links code turns c body
    → Does bl links code turns (once_code e bl.taken condition line c) (M.once (at_line around line) condition body)
unfolding M.once
by_condition bl links code turns routines around None line c body is room fits inner = inner
by_condition bl links code turns routines around (Some x) line c body is room fits inner =
    tested_does bl links code turns routines around x line c body is room fits inner

pub once_does : {e : Environment} {block : Names} {types : Types} (bl : Block e block types) (links : Links)
    (code : List Instr) (routines : Standing bl links code) (around : Around) (target : Y.Reference) (start : Y.Stored)
    (condition : Option Y.Bit) (body : Y.Stmts) (line : ℕ) → IsProvedBitIf block types condition
    → bl.taken.words + bit_if condition ≤ bl.words + spare bl.taken → line < 2 ^ 31
    → Does bl links code around.turns (stmt_code e bl.taken (Y.Assign target start line))
    (M.statement around (Y.Assign target start line))
    → Does bl links code around.turns (stmts_code e bl.taken body) (M.list around body)
    → Does bl links code around.turns (stmt_code e bl.taken (Y.DoOnce target start condition body line))
    (M.statement around (Y.DoOnce target start condition body line))
unfolding M.list
once_does {e} bl links code routines around target start condition body line is room fits first inner =
    let a = act_code line in
    let stored' = assignment_code e bl.taken target start in
    let c = stmts_code e bl.taken body in
    let rest = once_code e bl.taken condition line c in
    let part = M.list_with around (M.labels_in body) (M.statements around body) in
    let one = M.statement around (Y.Assign target start line) in
    let two = M.once (at_line around line) condition part in
    let both : Does bl links code around.turns ((a ++ stored') ++ rest) (one >> two) =
    sequence_does (a ++ stored') rest one two first
    (by_condition bl links code around.turns routines around condition line c part is room fits inner) in
    means_same (one >> two) (M.statement around (Y.DoOnce target start condition body line)) (λ k s. once_meant around target start condition body line k s)
    (subst (λ p. Does bl links code around.turns p (one >> two)) (append_assoc a stored' rest) both)
