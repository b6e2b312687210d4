-- A procedure comes behind its call if its statements do what they mean, and so does the statement CALL.
use Rattle.std.proofs.Common.{◌≡◌, ℕ, ◌+◌, ◌^◌, ◌<◌, ◌≤◌, List, [], ◌∷◌, ◌++◌, length, Option, Bool}
use Rattle.std.proofs.Common.{true, false, refl, sym, ap, ◌∙◌, subst, arith}
use Rattle.std.specs.Prelude.{cond, nat_lt}
use Rattle.rv_meaning.specs.declared.instr.Instr.{Instr}
use Rattle.pli_typing.specs.TypedTree as Y
use Rattle.pli_meaning.specs.BasicValues.{BasicValue}
use Rattle.pli_meaning.specs.declared.outcome.End.TheVariants as N
use Rattle.pli_meaning.specs.declared.outcome.Limit.TheVariants as L
use Rattle.pli_meaning.specs.Control as F
use Rattle.pli_meaning.specs.Control.{Flow, Normal, Jump, Return, Paused, Stuck, Meaning, flow_on, act, finish, give}
use Rattle.pli_meaning.specs.Control.{choose, leaving, left, looked, stored, ◌>>=◌, ◌>>◌}
use Rattle.pli_meaning.specs.DeclaredShapes.{variables_of_block}
use Rattle.pli_meaning.specs.Executing as M
use Rattle.pli_meaning.specs.Executing.{begun, with_activation}
use Rattle.pli_meaning.specs.Making as K
use Rattle.pli_meaning.specs.Raising.{Around, at_line}
use Rattle.pli_meaning.specs.StorageState.{State, newest_ended, most_activations}
use Rattle.pli_meaning.specs.World.{World, counted}
use Rattle.pli_coding.specs.Allocating.{act_code}
use Rattle.pli_coding.specs.Assembly.{Code, Mark, ReturnPlace, size_of}
use Rattle.pli_coding.specs.Environments.{none_taken}
use Rattle.pli_coding.specs.Statements.{stmts_code}
use Rattle.activation_relation.specs.Layers.{Point, services_of}
use Rattle.activation_relation.specs.Points.{AreFew, Stands, Surroundings}
use Rattle.activation_relation.specs.Remaining.{Remains}
use Rattle.activation_relation.proofs.Remaining.{remains_acted, remains_entered, remains_then}
use Rattle.activation_relation.proofs.Returning.{later_same}
use Rattle.activation_relation.proofs.Serials.{few_made}
use Rattle.run_steps.specs.Engine.{Base}
use Rattle.run_steps.proofs.Jumps.{front_of, back_of, rest_of, linked_at}
use Rattle.run_steps.proofs.Linking.{size_append}
use Rattle.run_steps.specs.Reach.{Family, Reach, Closed, Comes, cost}
use Rattle.run_steps.proofs.Reach.{before_closed, comes_on, onward, reach_with, stay}
use Rattle.block_runs.specs.Beginnings.{IsCalling}
use Rattle.block_runs.specs.Bodies as B
use Rattle.block_runs.specs.Bodies.{AtEnd, behind_aims, body_aims}
use Rattle.block_runs.specs.Machines.{IsImage, IsIn, AreIn, acted}
use Rattle.block_runs.proofs.BlockEntries.{Premises, begun_stands}
use Rattle.block_runs.proofs.CallsReturn.{calls_return}
use Rattle.block_runs.proofs.CallStatements.{comes_map}
use Rattle.block_runs.proofs.EmptyMeaning.{variables_none, entry_acts, on_nothing, own_return}
use Rattle.block_runs.proofs.PointActs.{act_comes, stands_acted}
use Rattle.program_runs.specs.Calls.{AreMade, Callee, IsCallee, act_index, begun_at, block_at, body_index, called_at}
use Rattle.program_runs.specs.Calls.{labels_of, left_over, variables_index}
use Rattle.program_runs.specs.Procedures.{HasRoom, beginning_for, begin_of, block_of, end_of, procedure_code}
use Rattle.program_runs.specs.Statements.{IsAmong, IsBegun, EachDoes, statement_aims}
use Rattle.program_runs.proofs.Procedures.{layer_begins}
use Rattle.program_runs.proofs.Lists.{list_does}
use Rattle.program_runs.proofs.JumpsOut.{end_later, no_jump}
use Rattle.program_runs.proofs.Statements.{at_end}
use Rattle.block_runs.proofs.Early.{comes_early}

-- ---- what its block means: its variables, the act of its entry, and its statements

abbrev pub behind_variables : Around → Y.Stmts → Meaning (Unit {0})
behind_variables around body = act counted >> M.list around body

abbrev body_of : Around → Y.BlockHead → Y.Stmts → Meaning (Unit {0})
body_of around head body =
    M.block_variables_made (at_line around head.line) head head.kind >> behind_variables (at_line around head.line) body

pub on_same :
    (k : ℕ) (flow : Flow (Unit {0})) (next other : Unit {0} → Meaning (Unit {0})) →
    ((s : State) → next tt k s ≡ other tt k s) → flow_on k flow next ≡ flow_on k flow other
on_same k (Normal r s) next other h = h s
on_same k (Jump height label s) next other h = refl
on_same k (Return v s) next other h = refl
on_same k (F.Ended s) next other h = refl
on_same k (Paused s) next other h = refl
on_same k Stuck next other h = refl

abbrev pub behind_entry : Around → Y.Stmts → Meaning (Unit {0})
behind_entry around body = M.block_list around body false

end_nothing :
    (around : Around) (body : Y.Stmts) (k : ℕ) (s : State) → behind_entry around body k s ≡ M.list around body k s
unfolding M.block_list
end_nothing around body k s = refl

pub entry_means :
    (around : Around) (kind : Y.BlockKind) (body : Y.Stmts) (k : ℕ) (s : State) → kind ≡ Y.ProcedureBlock →
    flow_on k (M.entry_act kind k s) (λ q. behind_entry around body) ≡ behind_variables around body k s
unfolding ◌>>◌
entry_means around kind body k s e =
    ap (λ flow. flow_on k flow (λ q. behind_entry around body)) (entry_acts kind k s e)
    ∙ on_same k (act counted k s) (λ q. behind_entry around body) (λ q. M.list around body)
    (λ s'. end_nothing around body k s')

body_means :
    (around : Around) (head : Y.BlockHead) (body : Y.Stmts) (parent k : ℕ) (s : State) →
    head.kind ≡ Y.ProcedureBlock →
    M.block_body around head body (begun (Y.BlockOf head body) parent) k s
    ≡ flow_on k (M.block_variables_made around head head.kind k s) (λ q. behind_variables around body)
unfolding M.block_body K.parameters_bound give ◌>>◌
body_means around head body parent k s kind =
    on_same k (M.block_variables_made around head head.kind k s)
    (λ q. M.entry_act head.kind >> behind_entry around body) (λ q. behind_variables around body)
    (λ s'. entry_means around head.kind body k s' kind)

pub block_means :
    (around : Around) (head : Y.BlockHead) (body : Y.Stmts) (parent k : ℕ) (s : State) →
    head.kind ≡ Y.ProcedureBlock → nat_lt (length s.activations) most_activations ≡ true →
    M.block_run around (Y.BlockOf head body) (begun (Y.BlockOf head body) parent) k s
    ≡ left true newest_ended
    (body_of around head body k (with_activation head (begun (Y.BlockOf head body) parent) s))
unfolding M.block_run looked stored choose leaving ◌>>=◌ ◌>>◌
block_means around head body parent k s kind few =
    let entry = begun (Y.BlockOf head body) parent in
    let s' = with_activation head entry s in
    let around' = at_line around head.line in
    let run : Bool → Flow (Option BasicValue) = λ q. cond q
    (left (M.is_own_return head.kind) newest_ended (M.block_body around' head body entry k s'))
    (finish (N.Limit L.Depth) k s) in
    ap run few
    ∙ ap (λ q. left q newest_ended (M.block_body around' head body entry k s')) (own_return head.kind kind)
    ∙ ap (λ flow. left true newest_ended flow) (body_means around' head body parent k s' kind)

-- ---- the call and the block

abbrev behind_made : Callee → Code
behind_made c =
    act_code c.procedure.head.line
    ++ (stmts_code c.environment none_taken c.procedure.body
    ++ (Mark (ReturnPlace c.procedure.head.number) ∷ end_of c.procedure))

abbrev parts_of : Callee → Code
parts_of c = c.procedure.variables ++ behind_made c

is_call :
    (w : Surroundings) (code : List Instr) (c : Callee) (p : Point) (numbers : ℕ → ℕ) →
    Stands w p × IsImage w code p → IsCallee w code c × HasRoom w p c.procedure c.calling →
    ((n : ℕ) → numbers n < 2 ^ 32) → B.IsCall (called_at w code c p numbers)
is_call w code c p numbers known h words =
    let x = c.procedure in
    let one = act_code x.head.line in
    let body = stmts_code c.environment none_taken x.body in
    let mark = Mark (ReturnPlace x.head.number) in
    let l0 = back_of x.variables (behind_made c) (back_of (begin_of x) (parts_of c) h.0.stands) in
    let l1 = back_of one (body ++ (mark ∷ end_of x)) l0 in
    let l2 = rest_of mark (end_of x) (back_of body (mark ∷ end_of x) l1) in
    let e = h.0.end in
    record {
      stands = known.0;
      image = known.1;
      beginning = layer_begins w code p numbers x c.calling known (h.0.coded, h.1) words;
      code = record {
        calls = h.0.calls;
        place = h.0.place;
        begins = front_of (begin_of x) (parts_of c) h.0.stands;
        back = refl;
      };
      ending = linked_at c.calling.end (end_of x) (omega (arith, e)) l2;
      word = tt;
    }

first_among :
    (w : Surroundings) (code : List Instr) (c : Callee) (p : Point) (numbers : ℕ → ℕ) →
    Stands w (c.made (begun_at w c p numbers)) × IsImage w code (c.made (begun_at w c p numbers)) →
    ((n : ℕ) → numbers n < 2 ^ 32) → (c.made (begun_at w c p numbers)).state.world.acts < w.acts →
    AreFew w (block_at w code c p numbers).first →
    IsAmong (block_at w code c p numbers) numbers (block_at w code c p numbers).first
first_among w code c p numbers made' words less few =
    let known = stands_acted c.procedure.head.line made'.0 made'.1 less in
    record {
      stands = known.0;
      image = known.1;
      later = later_same (block_at w code c p numbers).first;
      few = few;
      entries = refl;
      others = λ n more. refl;
      words = words;
    }

-- where its first statement begins its block is the newest
first_begun :
    (w : Surroundings) (code : List Instr) (c : Callee) (p : Point) (numbers : ℕ → ℕ) → AreMade w code c p numbers →
    Stands w (begun_at w c p numbers) → Stands w (block_at w code c p numbers).first →
    IsBegun (block_at w code c p numbers)
first_begun w code c p numbers made' begun' stands =
    let same = ap (λ (u : World). u.acts) made'.world in
    let then' = c.made (begun_at w c p numbers) in
    let first = acted c.procedure.head.line then' in
    record {
      activation = made'.activation;
      resumes = record {
        stands = stands;
        idle = made'.idle;
        changed = made'.changed;
        layers = made'.layers;
        own = made'.own;
        activations = made'.activations;
        more = omega (arith, same);
      };
      acts = omega (arith, same);
      remains = remains_then p then' first (made'.remains begun') (remains_acted then' counted c.procedure.head.line);
      outer = tt;
    }

pub body_closed : (k : B.Called) (left' : ℕ) → Closed k.code (body_aims k left')
body_closed k left' =
    record {
      done = λ r x s o. end_later r o;
      jumped = λ r height label s o. absurd o;
      returned = λ r x s o. end_later r o;
    }

-- its statements, from behind the act of its entry
pub body_goes :
    (w : Surroundings) (code : List Instr) (c : Callee) (p : Point) (numbers : ℕ → ℕ) (f : Family) →
    IsCallee w code c → IsBegun (block_at w code c p numbers) →
    IsAmong (block_at w code c p numbers) numbers (block_at w code c p numbers).first →
    EachDoes (block_at w code c p numbers) (labels_of c) c.procedure.body (body_index c) left_over →
    w.acts < c.around.turns + (block_at w code c p numbers).first.state.world.acts →
    AreIn w (block_at w code c p numbers).first numbers (body_index c) f →
    Comes code 0 f (services_of (block_at w code c p numbers).first)
    (body_aims (called_at w code c p numbers) left_over)
    (M.list (at_line c.around c.procedure.head.line) c.procedure.body w.acts
    (block_at w code c p numbers).first.state)
body_goes w code c p numbers f h b o each few there =
    let k = block_at w code c p numbers in
    let x = c.procedure in
    let one = act_code x.head.line in
    let body = stmts_code c.environment none_taken x.body in
    let tail = Mark (ReturnPlace x.head.number) ∷ end_of x in
    let l0 = back_of x.variables (behind_made c) (back_of (begin_of x) (parts_of c) h.stands) in
    let l1 = back_of one (body ++ tail) l0 in
    let l2 = front_of body tail l1 in
    let inside = l2.inside in
    let flow = M.list k.around x.body w.acts k.first.state in
    let acts = k.first.state.world.acts in
    comes_map (statement_aims k [] acts c.calling.end left_over left_over) (body_aims k.call left_over) refl flow
    (λ c' f' v' r s q. at_end b refl (omega arith) q)
    (λ c' f' v' height label s q. no_jump refl q)
    (λ c' f' v' r s q. q.to)
    (subst (λ j. Comes code 0 f (services_of k.first) (statement_aims k [] acts j left_over left_over) flow)
    (sym h.end)
    (list_does k [] x.body (body_index c) left_over k.first numbers 0 left_over f b few each h.labels o l2
    (omega arith, omega (arith, inside)) there))

-- what is asked of its body: from its first statement it comes to the block's end
abbrev pub BodyComes : Surroundings → List Instr → Callee → Point → (numbers : ℕ → ℕ) → Type 0
BodyComes w code c p numbers =
    IsBegun (block_at w code c p numbers) →
    IsAmong (block_at w code c p numbers) numbers (block_at w code c p numbers).first → (f : Family) →
    AreIn w (block_at w code c p numbers).first numbers (body_index c) f →
    Comes code 0 f (services_of (block_at w code c p numbers).first)
    (body_aims (called_at w code c p numbers) left_over)
    (M.list (at_line c.around c.procedure.head.line) c.procedure.body w.acts (block_at w code c p numbers).first.state)

pub procedure_comes :
    (w : Surroundings) (code : List Instr) (c : Callee) (p : Point) (numbers : ℕ → ℕ) (credits wanted : ℕ)
    (f : Family) → Stands w p × IsImage w code p → AreFew w p →
    IsCallee w code c × HasRoom w p c.procedure c.calling → AreMade w code c p numbers →
    ((n : ℕ) → numbers n < 2 ^ 32) →
    BodyComes w code c p numbers →
    credits + 4 + size_of (procedure_code c.environment c.procedure) ≤ cost code →
    AreIn w p numbers c.calling.call f →
    ((b : Base) → IsCalling p (beginning_for w p numbers c.procedure c.calling) b (f b)) →
    Comes code credits f (services_of p) (behind_aims (called_at w code c p numbers) wanted)
    (M.block_run c.around (block_of c.procedure) (begun (block_of c.procedure) c.calling.parent) w.acts p.state)
unfolding ◌>>◌
procedure_comes w code c p numbers credits wanted f known serials h made' words each paid there gives =
    let k = called_at w code c p numbers in
    let x = c.procedure in
    let one = act_code x.head.line in
    let body = stmts_code c.environment none_taken x.body in
    let tail = Mark (ReturnPlace x.head.number) ∷ end_of x in
    let is = is_call w code c p numbers known h words in
    let q : Premises w code p numbers k.beginning = record {
      stands = known.0;
      image = known.1;
      is = is.beginning;
    } in
    let new = begun_stands q in
    let l0 = back_of (begin_of x) (parts_of c) h.0.stands in
    let l1 = back_of x.variables (behind_made c) l0 in
    let n0 = size_append (begin_of x) (parts_of c) in
    let n1 = size_append x.variables (behind_made c) in
    let n2 = size_append one (body ++ tail) in
    let n3 = size_append body tail in
    let around' = at_line c.around x.head.line in
    let next' : Unit {0} → Meaning (Unit {0}) = λ u. M.list around' x.body in
    let start = begun_at w c p numbers in
    let then' = c.made start in
    let stands' = made'.stands new in
    let closed = body_closed k left_over in
    let c0 = credits + (left_over + size_of (end_of x)) + 2 + size_of (begin_of x) in
    subst (λ flow. Comes code credits f (services_of p) (behind_aims k wanted) flow)
    (sym (block_means c.around x.head x.body c.calling.parent w.acts p.state h.0.kind h.1.shallow))
    (comes_early w refl there
    (λ early.
    calls_return k (body_of c.around x.head x.body) credits left_over wanted f is
    (λ g at.
    subst (λ flow. Comes code c0 g (services_of start) (body_aims k left_over)
    (flow_on w.acts flow (λ u. behind_variables around' x.body))) (sym made'.means)
    (onward closed (made'.comes c0 g new (front_of x.variables (behind_made c) l0) at)
    (λ g' at'.
    comes_on w.acts (act counted w.acts then'.state) next'
    (act_comes (before_closed w.acts next' closed) x.head.line (c0 + size_of x.variables) 0 g' stands'
    (h.0.coded.line, h.0.acts, omega (arith, n0, n1, n2, n3, paid)) (front_of one (body ++ tail) l1) at'
    (λ g'' less at''.
    let same = ap (λ (u : World). u.acts) made'.world in
    let o = first_among w code c p numbers stands' words less
    (few_made w p (block_at w code c p numbers).first early made'.few (omega (arith, same, less))) in
    let b = first_begun w code c p numbers made' new.0 o.stands in
    each b o g'' at''))))) there gives))

pub procedure_runs :
    (w : Surroundings) (code : List Instr) (c : Callee) (p : Point) (numbers : ℕ → ℕ) (credits wanted : ℕ)
    (f : Family) → Stands w p × IsImage w code p → AreFew w p →
    IsCallee w code c × HasRoom w p c.procedure c.calling → AreMade w code c p numbers →
    ((n : ℕ) → numbers n < 2 ^ 32) →
    (IsBegun (block_at w code c p numbers) →
    EachDoes (block_at w code c p numbers) (labels_of c) c.procedure.body (body_index c) left_over) →
    w.acts < c.around.turns + (p.state.world.acts + 1) →
    credits + 4 + size_of (procedure_code c.environment c.procedure) ≤ cost code →
    AreIn w p numbers c.calling.call f →
    ((b : Base) → IsCalling p (beginning_for w p numbers c.procedure c.calling) b (f b)) →
    Comes code credits f (services_of p) (behind_aims (called_at w code c p numbers) wanted)
    (M.block_run c.around (block_of c.procedure) (begun (block_of c.procedure) c.calling.parent) w.acts p.state)
procedure_runs w code c p numbers credits wanted f known serials h made' words each few paid there gives =
    let same = ap (λ (u : World). u.acts) made'.world in
    procedure_comes w code c p numbers credits wanted f known serials h made' words
    (λ b o g at. body_goes w code c p numbers g h.0 b o (each b) (omega (arith, few, same)) at) paid there gives

-- ---- no variables

pub none_made :
    (w : Surroundings) (code : List Instr) (c : Callee) (p : Point) (numbers : ℕ → ℕ) →
    c.procedure.head.kind ≡ Y.ProcedureBlock → variables_of_block c.around.program c.procedure.head.number ≡ [] →
    (c.procedure.variables ≡ []) × (c.made ≡ (λ q. q)) → AreMade w code c p numbers
none_made w code c p numbers kind none empty =
    let start = begun_at w c p numbers in
    let x = beginning_for w p numbers c.procedure c.calling in
    let φ = x.layer in
    let here : c.made start ≡ start = ap (λ (made : Point → Point). made start) empty.1 in
    let size : size_of c.procedure.variables ≡ 0 = ap (λ u. size_of u) empty.0 in
    let i = variables_index c in
    record {
      stands = λ known. subst (λ q. Stands w q × IsImage w code q) (sym here) known;
      comes = λ credits f known l there.
          subst (λ q. Reach code credits f (services_of start) (credits + size_of c.procedure.variables) (services_of q)
          (λ b y. IsIn w q numbers (act_index c) b y)) (sym here)
          (reach_with (credits + size_of c.procedure.variables) (omega arith)
          (stay code credits f (services_of start) (λ b y. IsIn w start numbers (act_index c) b y)
          (subst (λ n. AreIn w start numbers n f) (omega (arith, size)) there)));
      means = variables_none (at_line c.around c.procedure.head.line) c.procedure.head c.procedure.head.kind w.acts
          start.state kind none
          ∙ ap (λ (q : Point). Normal tt q.state) (sym here);
      activation = M.activation_of x.head x.entry (length p.state.activations + 1);
      parent = refl;
      changed = record {
        units = φ.units;
        waits = φ.waits;
        told = φ.told;
        top = φ.top;
        lower = φ.lower;
        carried = φ.carried;
      };
      layers = ap (λ (q : Point). q.control.layers) here;
      own = [];
      activations = ap (λ (q : Point). q.state.activations) here;
      idle = ap (λ (q : Point). q.control.waiting) here;
      world = ap (λ (q : Point). q.state.world) here;
      remains = λ begun'. subst (λ q. Remains p q) (sym here) (remains_entered p x.head x.entry φ x.head.line);
      few = subst (λ (q : Point). q.state.serials ≤ p.state.serials + w.serials) (sym here) (omega arith);
    }
