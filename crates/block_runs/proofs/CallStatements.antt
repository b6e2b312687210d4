-- The statement CALL of a procedure that does nothing: its act, what is given, and the call.
use Rattle.std.proofs.Common.{◌≡◌, ℕ, suc, ◌+◌, ◌*◌, ◌^◌, ◌<◌, ◌≤◌, List, [], ◌∷◌, ◌++◌, Option, Bool, true}
use Rattle.std.proofs.Common.{length, refl, sym, ap, ◌∙◌, subst, arith}
use Rattle.std.proofs.lemmas.Bool.{eq-eqb}
use Rattle.std.proofs.lemmas.List.{append_assoc}
use Rattle.std.specs.Prelude.{pos, cond, nat_lt}
use Rattle.rv_meaning.specs.declared.instr.Instr.{Instr}
use Rattle.rv_meaning.specs.Words.{word, sum}
use Rattle.pli_typing.specs.TypedTree as Y
use Rattle.pli_meaning.specs.BasicValues.{BasicValue}
use Rattle.pli_meaning.specs.Control as F
use Rattle.pli_meaning.specs.Control.{Flow, Normal, Jump, Return, Paused, Stuck, Meaning, act, left, give}
use Rattle.pli_meaning.specs.Control.{looked}
use Rattle.pli_meaning.specs.Control.{◌>>=◌, ◌>>◌}
use Rattle.pli_meaning.specs.Evaluating as V
use Rattle.pli_meaning.specs.Executing as M
use Rattle.pli_meaning.specs.Executing.{begun, with_activation}
use Rattle.pli_meaning.specs.Raising.{Around, at_line, Entry}
use Rattle.pli_meaning.specs.StorageState.{State, newest_ended, height_of, ancestor_at, most_activations}
use Rattle.pli_meaning.specs.World.{counted}
use Rattle.pli_serving.specs.ServiceState.{Services}
use Rattle.pli_coding.specs.Allocating.{act_code}
use Rattle.pli_coding.specs.Assembly.{Code, CallTo, ProcedureEntry, size_of}
use Rattle.pli_coding.specs.Frames.{words_place, display}
use Rattle.pli_coding.specs.Instructions.{plus, number, move, load_word}
use Rattle.pli_coding.specs.Registers.{a0, a1, a2, frame_register}
use Rattle.pli_coding.specs.Statements.{stmt_code}
use Rattle.run_steps.specs.Bodies.{Known}
use Rattle.run_steps.proofs.Bodies.{constant_piece, plus_piece, frame_is}
use Rattle.run_steps.specs.Engine.{Base}
use Rattle.run_steps.specs.Items.{Linked}
use Rattle.run_steps.proofs.Items.{straight}
use Rattle.run_steps.proofs.Jumps.{front_of, back_of}
use Rattle.run_steps.proofs.Linking.{size_append}
use Rattle.run_steps.proofs.Numbers.{below_small}
use Rattle.run_steps.specs.Reach.{Family, Reach, reached, Aims, Closed, Comes, before, cost, ComesTo, GiveFew}
use Rattle.run_steps.proofs.Reach.{reach_then, reached_holds, reach_map, onward, comes_on, before_closed}
use Rattle.run_steps.proofs.Reaching.{reach_moved}
use Rattle.run_steps.specs.Temporaries.{nothing}
use Rattle.activation_relation.specs.Chains.{frame_at}
use Rattle.activation_relation.specs.Frames.{frame_under}
use Rattle.activation_relation.specs.Layers.{Point, services_of}
use Rattle.activation_relation.specs.Points.{Stands}
use Rattle.block_runs.specs.Beginnings.{IsCalling, begun_point, beginning_code}
use Rattle.block_runs.specs.CallStatements.{CallStatement, IsCallStatement, statement_of, empty_block}
use Rattle.block_runs.specs.CallStatements.{statement_aims}
use Rattle.block_runs.specs.EmptyProcedures.{empty_code, call_aims}
use Rattle.block_runs.specs.Machines.{IsIn, IsImage, AreIn, acted}
use Rattle.block_runs.proofs.BlockEntries.{Premises}
use Rattle.block_runs.proofs.EmptyCalls.{empty_comes}
use Rattle.block_runs.proofs.EmptyMeaning.{empty_means}
use Rattle.block_runs.proofs.Places.{IsFrame}
use Rattle.block_runs.proofs.PointActs.{act_comes, stands_acted}
use Rattle.block_runs.proofs.PointGrounds.{known_in, in_known, point_frame, point_ground}

-- ---- what is given

abbrev pub list_code : CallStatement → Code
list_code k = plus a1 frame_register (words_place k.taken.words 0)

abbrev pub call_code_of : CallStatement → Code
call_code_of k = CallTo (ProcedureEntry k.beginning.head.number) ∷ []

abbrev pub given_code : CallStatement → Code
given_code k = list_code k ++ (number a2 0 ++ (move a0 frame_register ∷ []))

pub arguments_given :
    (k : CallStatement) (p : Point) (numbers : ℕ → ℕ) (i c : ℕ) (f : Family) → Stands k.surroundings p →
    IsImage k.surroundings k.code p → (k.taken.words < 2 ^ 20) × (k.beginning.texts ≡ 0) →
    frame_at p.control.layers k.beginning.entry.parent ≡ frame_under k.surroundings.parts p.control.layers →
    Linked k.surroundings.links k.code i (given_code k) → AreIn k.surroundings p numbers i f →
    Reach k.code c f (services_of p) (c + size_of (given_code k)) (services_of p)
    (λ b y. IsIn k.surroundings p numbers (i + size_of (given_code k)) b y × IsCalling p k.beginning b y)
arguments_given k p numbers i c f stands image few parent l there =
    let w = k.surroundings in
    let h = point_frame stands image in
    let at = frame_under w.parts p.control.layers in
    let room = h.room in
    let v = services_of p in
    let z = words_place k.taken.words 0 in
    let words = few.0 in
    let first = list_code k in
    let second = number a2 0 in
    let last = move a0 frame_register ∷ [] in
    let l1 = back_of first (second ++ last) l in
    let n0 = size_append first (second ++ last) in
    let n1 = size_append second last in
    let r1 = plus_piece {t = λ n. 0} {rs = nothing} c f a1 frame_register z (λ b. b.at + at)
    (λ b. sum (b.at + at) (word z)) (below_small (4 * (k.taken.words + 0)) (omega (arith, words)))
    (λ b. let v' = b.valid.1 in omega (arith, v', room)) (λ y u. refl) (λ b y o. frame_is o.body) (λ b. refl)
    (record { reserved_stay = λ y u. refl; known_stay = λ b y u o. o; set = λ y u. refl })
    (record { reserved_stay = λ y u. refl; known_stay = λ b y u o. o; set = λ y u. refl })
    (front_of first (second ++ last) l) (λ b. known_in h (there b) tt) in
    let r2 = constant_piece (c + size_of first) (reached r1) a2 (pos 0) (omega arith)
    (record { reserved_stay = λ y u. refl; known_stay = λ b y u o. o; set = λ y u. refl })
    (front_of second last l1) (reached_holds r1) in
    let r3 = straight (c + size_of first + size_of second) (reached r2) v v
    (λ b y. Known (point_ground w p h) v numbers (λ n. 0) (λ b'. (10, b'.at + at) ∷ (12, 0) ∷ []) b y)
    (back_of second last l1) (omega arith) (λ b. (reached_holds r2 b).pc)
    (λ b. let o = (reached_holds r2 b).holds in record {
      body = record {
        services = o.body.services;
        registers = o.body.registers;
        bytes = o.body.bytes;
        memory = o.body.memory;
      };
      regs = (moved b at ((reached r2 b).machine.registers 8) h (frame_is o.body), (o.regs.0 ∙ refl, tt));
    }) in
    reach_map _ (reach_moved (omega (arith, n0, n1)) (omega (arith, n0, n1)) (reach_then r1 (reach_then r2 r3)))
    (λ b y o. (
      in_known h image.parts o,
      record {
        parent = λ some. o.holds.regs.0 ∙ ap (λ n. b.at + n) (sym parent);
        texts = o.holds.regs.1.0 ∙ sym few.1;
      },
    ))
  where
    moved : (b : Base) (at x : ℕ) → IsFrame at → x ≡ b.at + at → sum x (word (pos 0)) ≡ b.at + at
    moved b at x h e = let room = h.room in let v = b.valid.1 in omega (arith, e, room, v)

-- ---- what the statement means

abbrev call_tree : CallStatement → Y.Call
call_tree k = Y.Calling k.beginning.head.number k.environment.level Y.NoArgument

called_means :
    (k : CallStatement) (p : Point) (numbers : ℕ → ℕ) (more acts : ℕ) → IsCallStatement k p numbers more →
    nat_lt (length (acted k.line p).state.activations) most_activations ≡ true →
    V.called (at_line k.around k.line) (call_tree k) acts (acted k.line p).state
    ≡ left true newest_ended (act counted acts (begun_point k.beginning (acted k.line p)).state)
unfolding V.called V.arguments V.all_passed_last V.procedure_entered M.entered looked give ◌>>=◌ ◌>>◌
called_means k p numbers more acts h few =
    let s = (acted k.line p).state in
    let around = at_line k.around k.line in
    let x = k.beginning in
    let height = height_of (ancestor_at s k.environment.level) in
    let entry = begun (empty_block x) height in
    let inner : Around = record
    { program = k.around.program; enter = M.entered k.around.program more; turns = suc more; line = 0 } in
    ap (λ o. V.procedure_entered around o k.environment.level [] acts s) h.found
    ∙ ap (λ (enters : Entry → Meaning (Option BasicValue)). enters entry acts s) h.enter
    ∙ empty_means inner x.head height more acts s refl h.kind h.variables few
    ∙ ap (λ (e : Entry). left true newest_ended (act counted acts (with_activation x.head e s))) (sym h.entered)

-- ---- other aims

pub comes_map :
    {R : Type 0} {code : List Instr} {c : ℕ} {f : Family} {v : Services} (A B : Aims R) → B.limits ≡ A.limits →
    (flow : Flow R) →
    ((c' : ℕ) (f' : Family) (v' : Services) (r : R) (s : State) → A.done c' f' v' r s → B.done c' f' v' r s) →
    ((c' : ℕ) (f' : Family) (v' : Services) (height : ℕ) (label : F.Label) (s : State) →
    A.jumped c' f' v' height label s → B.jumped c' f' v' height label s) →
    ((c' : ℕ) (f' : Family) (v' : Services) (r : Option BasicValue) (s : State) → A.returned c' f' v' r s →
    B.returned c' f' v' r s) →
    Comes code c f v A flow → Comes code c f v B flow
comes_map {R} {code} {c} {f} {v} A B same flow d j t o =
    record { to = λ early. by flow (o.to (subst (λ n. GiveFew code n f) same early)) }
  where
    by : (flow : Flow R) → ComesTo code c f v A flow → ComesTo code c f v B flow
    by (Normal r s) o = d c f v r s o
    by (Jump height label s) o = j c f v height label s o
    by (Return r s) o = t c f v r s o
    by (F.Ended s) o = o
    by (Paused s) o = o
    by Stuck o = o

statement_closed :
    (k : CallStatement) (p : Point) (numbers : ℕ → ℕ) (wanted : ℕ) →
    Closed k.code (statement_aims k p numbers wanted)
statement_closed k p numbers wanted =
    record {
      done = λ r v s o. (o.0, reach_then r o.1);
      jumped = λ r height label s o. absurd o;
      returned = λ r v s o. absurd o;
    }

-- ---- the statement

abbrev pub statement_code : CallStatement → Code
statement_code k = act_code k.line ++ (given_code k ++ call_code_of k)

abbrev code_by : Bool → CallStatement → Code
code_by q k =
    act_code k.line
    ++ (list_code k
    ++ (number a2 0
    ++ ((cond q [] (load_word a0 frame_register (display k.environment.level)) ++
    (move a0 (cond q frame_register a0) ∷ []))
    ++ call_code_of k)))

-- the procedure's static parent is the running block
pub own_code : (k : CallStatement) → stmt_code k.environment k.taken (statement_of k) ≡ statement_code k
own_code k =
    ap (λ q. code_by q k) (eq-eqb k.environment.level k.environment.level refl)
    ∙ ap (λ u. act_code k.line ++ (list_code k ++ u))
    (sym (append_assoc (number a2 0) (move a0 frame_register ∷ []) (call_code_of k)))
    ∙ ap (λ u. act_code k.line ++ u)
    (sym (append_assoc (list_code k) (number a2 0 ++ (move a0 frame_register ∷ [])) (call_code_of k)))

abbrev behind_call : Option BasicValue → Meaning (Unit {0})
behind_call r = give tt

call_goes :
    (k : CallStatement) (p : Point) (numbers : ℕ → ℕ) (more c wanted : ℕ) (f : Family) →
    IsCallStatement k p numbers more → p.state.world.acts < k.surroundings.acts →
    c + size_of (given_code k) + 2 + size_of (empty_code k.beginning) ≤ cost k.code →
    AreIn k.surroundings (acted k.line p) numbers (k.index + size_of (act_code k.line)) f →
    Comes k.code c f (services_of (acted k.line p))
    (before k.code (statement_aims k p numbers wanted) k.surroundings.acts behind_call)
    (left true newest_ended (act counted k.surroundings.acts (begun_point k.beginning (acted k.line p)).state))
unfolding give
call_goes k p numbers more c wanted f h less paid there =
    let w = k.surroundings in
    let x = k.beginning in
    let p' = acted k.line p in
    let known = stands_acted k.line h.stands h.image less in
    let q : Premises w k.code p' numbers x = record { stands = known.0; image = known.1; is = h.beginning less } in
    let one = act_code k.line in
    let given' = given_code k in
    let call = call_code_of k in
    let l = subst (Linked w.links k.code k.index) (own_code k) h.statement in
    let l1 = back_of one (given' ++ call) l in
    let n0 = size_append one (given' ++ call) in
    let n1 = size_append given' call in
    let back = h.back in
    let size = ap (λ u. size_of u) (own_code k) in
    let closed = statement_closed k p numbers wanted in
    let closed' = before_closed w.acts behind_call closed in
    let flow = left true newest_ended (act counted w.acts (begun_point x p').state) in
    onward closed'
    (arguments_given k p' numbers (k.index + size_of one) c f known.0 known.1 (h.taken, h.texts) h.parent
    (front_of given' call l1) there)
    (λ g at.
    comes_map (call_aims w k.code p' numbers x wanted)
    (before k.code (statement_aims k p numbers wanted) w.acts behind_call) refl
    flow
    (λ c' f' v' r s o. record { to = λ early. (o.1, o.2) })
    (λ c' f' v' height label s o. absurd o)
    (λ c' f' v' r s o. absurd o)
    (empty_comes (c + size_of given') wanted (k.index + size_of one + size_of given') k.entry g q (
      record {
        calls = back_of given' call l1;
        place = h.place;
        begins = front_of (beginning_code x) _ h.procedure;
        back = omega (arith, back, n0, n1, size);
      },
      h.procedure,
    )
    (h.acts, omega (arith, paid))
    (λ b. (at b).0, λ b. (at b).1)))

pub statement_calls :
    (k : CallStatement) (p : Point) (numbers : ℕ → ℕ) (more c wanted : ℕ) (f : Family) →
    IsCallStatement k p numbers more →
    c + size_of (stmt_code k.environment k.taken (statement_of k)) + size_of (empty_code k.beginning) ≤ cost k.code →
    AreIn k.surroundings p numbers k.index f →
    Comes k.code c f (services_of p) (statement_aims k p numbers wanted)
    (M.statement k.around (statement_of k) k.surroundings.acts p.state)
unfolding M.statement ◌>>=◌ ◌>>◌
statement_calls k p numbers more c wanted f h paid there =
    let w = k.surroundings in
    let one = act_code k.line in
    let given' = given_code k in
    let call = call_code_of k in
    let l = subst (Linked w.links k.code k.index) (own_code k) h.statement in
    let n0 = size_append one (given' ++ call) in
    let n1 = size_append given' call in
    let size = ap (λ u. size_of u) (own_code k) in
    let closed = statement_closed k p numbers wanted in
    let tail : Unit {0} → Meaning (Unit {0}) = λ u. V.called (at_line k.around k.line) (call_tree k) >> give tt in
    comes_on w.acts (act counted w.acts p.state) tail
    (act_comes (before_closed w.acts tail closed) k.line c 0 f (h.stands, h.image)
    (h.line, h.acts, omega (arith, paid, n0, size)) (front_of one (given' ++ call) l) there
    (λ g less at.
    comes_on w.acts (V.called (at_line k.around k.line) (call_tree k) w.acts (acted k.line p).state) (λ r. give tt)
    (subst (Comes k.code 0 g (services_of (acted k.line p))
    (before k.code (statement_aims k p numbers wanted) w.acts behind_call))
    (sym (called_means k p numbers more w.acts h (h.beginning less).shallow))
    (call_goes k p numbers more 0 wanted g h less (omega (arith, paid, n0, n1, size)) at))))
