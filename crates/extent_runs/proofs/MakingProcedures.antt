-- A procedure comes behind its call if the making of its variables does what it means, and then its statements.
use Rattle.std.proofs.Common.{◌≡◌, ℕ, ◌+◌, ◌*◌, ◌^◌, ◌<◌, ◌≤◌, List, [], ◌∷◌, ◌++◌, refl, sym, subst, arith}
use Rattle.std.specs.Prelude.{Option, None}
use Rattle.rv_meaning.specs.declared.instr.Instr.{Instr}
use Rattle.pli_meaning.specs.Control.{Meaning, act, ◌>>◌}
use Rattle.pli_meaning.specs.Executing as M
use Rattle.pli_meaning.specs.Executing.{begun}
use Rattle.pli_meaning.specs.Raising.{at_line}
use Rattle.pli_meaning.specs.StorageState.{State}
use Rattle.pli_meaning.specs.World.{counted}
use Rattle.pli_serving.specs.ServiceState.{Services}
use Rattle.pli_coding.specs.Allocating.{act_code}
use Rattle.pli_coding.specs.Assembly.{Code, Mark, ReturnPlace, size_of}
use Rattle.pli_coding.specs.Environments.{none_taken}
use Rattle.pli_coding.specs.Statements.{stmts_code}
use Rattle.activation_relation.specs.Layers.{Point, services_of}
use Rattle.activation_relation.specs.Points.{Stands, Surroundings, IsEarly}
use Rattle.activation_relation.proofs.Remaining.{remains_acted, remains_then}
use Rattle.activation_relation.proofs.Serials.{few_acted}
use Rattle.run_steps.specs.Engine.{Base}
use Rattle.run_steps.proofs.Jumps.{back_of, front_of, linked_at, rest_of}
use Rattle.run_steps.proofs.Linking.{size_append}
use Rattle.run_steps.specs.Reach.{Comes, Family, before, cost}
use Rattle.run_steps.proofs.Reach.{before_closed, comes_on, onward}
use Rattle.block_runs.specs.Beginnings.{IsCalling}
use Rattle.block_runs.specs.Bodies as B
use Rattle.block_runs.specs.Bodies.{behind_aims, body_aims}
use Rattle.block_runs.specs.Machines.{AreIn, IsImage, acted}
use Rattle.block_runs.proofs.BlockEntries.{Premises, begun_stands}
use Rattle.block_runs.proofs.CallsReturn.{calls_return}
use Rattle.block_runs.proofs.CallStatements.{comes_map}
use Rattle.block_runs.proofs.PointActs.{act_comes, stands_acted}
use Rattle.program_runs.specs.Calls.{Callee, IsCallee, act_index, begun_at, block_at, body_index, called_at}
use Rattle.program_runs.specs.Calls.{labels_of, left_over}
use Rattle.program_runs.specs.Procedures.{HasRoom, beginning_for, begin_of, block_of, end_of, procedure_code}
use Rattle.program_runs.specs.Statements.{Block, EachDoes, IsAmong, IsBegun, statement_aims}
use Rattle.program_runs.proofs.Calls.{behind_variables, block_means, body_closed}
use Rattle.program_runs.proofs.JumpsOut.{no_jump}
use Rattle.program_runs.proofs.Lists.{list_does}
use Rattle.program_runs.proofs.Procedures.{layer_begins}
use Rattle.program_runs.proofs.Statements.{at_end, resumes_among}
use Rattle.begin_runs.specs.BehindLists.{GoesBehind, from_point, list_aims}
use Rattle.extent_runs.specs.Making.{Makes, Site, block_from, made_at, site_at}
use Rattle.extent_runs.specs.Unpaid.{AreBound, GoesUnpaid, MakesUnpaid, unpaid_aims}
use Rattle.block_runs.proofs.Early.{comes_early}

-- ---- the call

abbrev behind_made : Callee → Code
behind_made c =
    act_code c.procedure.head.line
    ++ (stmts_code c.environment none_taken c.procedure.body
    ++ (Mark (ReturnPlace c.procedure.head.number) ∷ end_of c.procedure))

abbrev parts_of : Callee → Code
parts_of c = c.procedure.variables ++ behind_made c

pub is_call :
    (w : Surroundings) (code : List Instr) (c : Callee) (p : Point) (numbers : ℕ → ℕ) →
    Stands w p × IsImage w code p → IsCallee w code c × HasRoom w p c.procedure c.calling →
    ((n : ℕ) → numbers n < 2 ^ 32) → B.IsCall (called_at w code c p numbers)
is_call w code c p numbers known h words =
    let x = c.procedure in
    let one = act_code x.head.line in
    let body = stmts_code c.environment none_taken x.body in
    let mark = Mark (ReturnPlace x.head.number) in
    let l0 = back_of x.variables (behind_made c) (back_of (begin_of x) (parts_of c) h.0.stands) in
    let l1 = back_of one (body ++ (mark ∷ end_of x)) l0 in
    let l2 = rest_of mark (end_of x) (back_of body (mark ∷ end_of x) l1) in
    let e = h.0.end in
    record {
      stands = known.0;
      image = known.1;
      beginning = layer_begins w code p numbers x c.calling known (h.0.coded, h.1) words;
      code = record {
        calls = h.0.calls;
        place = h.0.place;
        begins = front_of (begin_of x) (parts_of c) h.0.stands;
        back = refl;
      };
      ending = linked_at c.calling.end (end_of x) (omega (arith, e)) l2;
      word = tt;
    }

-- ---- its statements

abbrev EachGoes :
    (like : Option Point) → Surroundings → List Instr → Callee → Point → (numbers : ℕ → ℕ) → Type 0
EachGoes like w code c p numbers =
    (first : Point) → IsBegun (block_from w code c p numbers first) → AreBound like first →
    EachDoes (block_from w code c p numbers first) (labels_of c) c.procedure.body (body_index c) left_over

-- from behind the act of its entry
body_goes :
    (w : Surroundings) (code : List Instr) (c : Callee) (p first q : Point) (numbers held : ℕ → ℕ) (f : Family) →
    IsCallee w code c → IsBegun (block_from w code c p numbers first) →
    IsAmong (block_from w code c p numbers first) held q →
    EachDoes (block_from w code c p numbers first) (labels_of c) c.procedure.body (body_index c) left_over →
    w.acts < c.around.turns + q.state.world.acts → AreIn w q held (body_index c) f →
    Comes code 0 f (services_of q) (body_aims (called_at w code c p numbers) left_over)
    (M.list (at_line c.around c.procedure.head.line) c.procedure.body w.acts q.state)
body_goes w code c p first q numbers held f h b o each few there =
    let k = block_from w code c p numbers first in
    let x = c.procedure in
    let one = act_code x.head.line in
    let body = stmts_code c.environment none_taken x.body in
    let tail = Mark (ReturnPlace x.head.number) ∷ end_of x in
    let l0 = back_of x.variables (behind_made c) (back_of (begin_of x) (parts_of c) h.stands) in
    let l2 = front_of body tail (back_of one (body ++ tail) l0) in
    let inside = l2.inside in
    let flow = M.list k.around x.body w.acts q.state in
    let acts = q.state.world.acts in
    comes_map (statement_aims k [] acts c.calling.end left_over left_over) (body_aims k.call left_over) refl flow
    (λ c' f' v' r s g. at_end b refl (omega arith) g)
    (λ c' f' v' height label s g. no_jump refl g)
    (λ c' f' v' r s g. g.to)
    (subst (λ j. Comes code 0 f (services_of q) (statement_aims k [] acts j left_over left_over) flow) (sym h.end)
    (list_does k [] x.body (body_index c) left_over q held 0 left_over f b few each h.labels o l2
    (omega arith, omega (arith, inside)) there))

-- the act of its entry, and then its statements
behind_entry :
    (k : Block) {first : Point} {numbers : ℕ → ℕ} (line : ℕ) → IsBegun (from_point k first) →
    IsImage k.call.surroundings k.call.code first →
    IsEarly k.call.surroundings first →
    ((n : ℕ) → k.registers ≤ n → numbers n ≡ k.call.numbers n) × ((n : ℕ) → numbers n < 2 ^ 32) →
    first.state.world.acts < k.call.surroundings.acts →
    IsAmong (from_point k first) numbers (acted line first)
behind_entry k {first} line b image early registers less =
    let few = early less in
    let known = stands_acted line b.resumes.stands image less in
    record {
      stands = known.0;
      image = known.1;
      later = record {
        activations = refl;
        layers = refl;
        edits = refl;
        waiting = refl;
        acts = omega arith;
        remains = remains_acted first counted line;
      };
      few = omega (arith, few);
      entries = refl;
      others = registers.0;
      words = registers.1;
    }

entry_goes :
    (w : Surroundings) (code : List Instr) (c : Callee) (p first : Point) (numbers held : ℕ → ℕ) (credits : ℕ)
    (f : Family) → IsCallee w code c → IsBegun (block_from w code c p numbers first) →
    IsImage w code first →
    ((n : ℕ) → c.procedure.saved ≤ n → held n ≡ numbers n) × ((n : ℕ) → held n < 2 ^ 32) →
    EachDoes (block_from w code c p numbers first) (labels_of c) c.procedure.body (body_index c) left_over →
    w.acts < c.around.turns + (first.state.world.acts + 1) →
    credits + size_of (act_code c.procedure.head.line) ≤ cost code →
    AreIn w first held (act_index c) f →
    Comes code credits f (services_of first) (body_aims (called_at w code c p numbers) left_over)
    (behind_variables (at_line c.around c.procedure.head.line) c.procedure.body w.acts first.state)
unfolding ◌>>◌
entry_goes w code c p first numbers held credits f h b known registers each few paid there =
    let x = c.procedure in
    let one = act_code x.head.line in
    let rest = stmts_code c.environment none_taken x.body ++ (Mark (ReturnPlace x.head.number) ∷ end_of x) in
    let around' = at_line c.around x.head.line in
    let next' : Unit {0} → Meaning (Unit {0}) = λ u. M.list around' x.body in
    let closed = body_closed (called_at w code c p numbers) left_over in
    let l0 = back_of x.variables (behind_made c) (back_of (begin_of x) (parts_of c) h.stands) in
    comes_early w refl there
    (λ early.
    comes_on w.acts (act counted w.acts first.state) next'
    (act_comes (before_closed w.acts next' closed) x.head.line credits 0 f (b.resumes.stands, known)
    (h.coded.line, h.acts, paid) (front_of one rest l0) there
    (λ g less at.
    body_goes w code c p first (acted x.head.line first) numbers held g h b
    (behind_entry (block_from w code c p numbers first) x.head.line b known early registers less) each
    (omega (arith, few)) at)))

-- ---- the whole

-- what is paid already
pub paid_makes : (z : Site) (left' : ℕ) (made : Meaning (Unit {0})) → Makes z left' made →
    MakesUnpaid None z left' made
paid_makes z left' made makes c wanted f known l paid there =
    let k = z.block in
    let acts = z.start.state.world.acts in
    let end = z.index + size_of z.variables in
    comes_map (list_aims k acts end wanted left') (unpaid_aims None k acts end wanted left') refl
    (made k.call.surroundings.acts z.start.state)
    (λ c' f' v' r s (o : GoesBehind k acts end wanted c' f' v' s). paid_goes o)
    (λ c' f' v' height label s o. o)
    (λ c' f' v' r s o. o)
    (makes c wanted f known l paid there)
  where
    paid_goes :
        {k : Block} {acts index wanted c : ℕ} {f : Family} {v : Services} {s : State} →
        GoesBehind k acts index wanted c f v s → GoesUnpaid None k acts index wanted c f v s
    paid_goes {k} o =
        let q = o.goes.point in
        let among = o.goes.among in
        let some = o.begun.acts in
        let later = among.later.acts in
        record {
          first = q;
          begun = record {
            activation = o.begun.activation;
            resumes = resumes_among o.begun among;
            acts = omega (arith, some, later);
            remains = remains_then k.call.point o.first q o.begun.remains among.later.remains;
            outer = o.begun.outer;
          };
          bound = tt;
          image = among.image;
          numbers = o.goes.numbers;
          others = among.others;
          words = among.words;
          since = o.goes.since;
          state = o.goes.state;
          reach = o.goes.reach;
        }

pub unpaid_runs :
    (like : Option Point) (w : Surroundings) (code : List Instr) (c : Callee) (p : Point) (numbers : ℕ → ℕ)
    (credits wanted : ℕ) (f : Family) → Stands w p × IsImage w code p → IsCallee w code c × HasRoom w p c.procedure c.calling →
    MakesUnpaid like (site_at w code c p numbers) left_over (made_at c) → ((n : ℕ) → numbers n < 2 ^ 32) →
    EachGoes like w code c p numbers → w.acts < c.around.turns + (p.state.world.acts + 1) →
    credits + 4 + size_of (procedure_code c.environment c.procedure) ≤ cost code →
    AreIn w p numbers c.calling.call f →
    ((b : Base) → IsCalling p (beginning_for w p numbers c.procedure c.calling) b (f b)) →
    Comes code credits f (services_of p) (behind_aims (called_at w code c p numbers) wanted)
    (M.block_run c.around (block_of c.procedure) (begun (block_of c.procedure) c.calling.parent) w.acts p.state)
unfolding ◌>>◌
unpaid_runs like w code c p numbers credits wanted f known h makes words each few paid there gives =
    let k = called_at w code c p numbers in
    let i = block_at w code c p numbers in
    let x = c.procedure in
    let is = is_call w code c p numbers known h words in
    let q : Premises w code p numbers k.beginning = record {
      stands = known.0;
      image = known.1;
      is = is.beginning;
    } in
    let new = begun_stands q in
    let l0 = back_of (begin_of x) (parts_of c) h.0.stands in
    let n0 = size_append (begin_of x) (parts_of c) in
    let n1 = size_append x.variables (behind_made c) in
    let body = stmts_code c.environment none_taken x.body in
    let tail = Mark (ReturnPlace x.head.number) ∷ end_of x in
    let n2 = size_append (act_code x.head.line) (body ++ tail) in
    let n3 = size_append body tail in
    let around' = at_line c.around x.head.line in
    let start = begun_at w c p numbers in
    let low = start.state.world.acts in
    let same : low ≡ p.state.world.acts = refl in
    let closed = body_closed k left_over in
    let c0 = credits + (left_over + size_of (end_of x)) + 2 + size_of (begin_of x) in
    let c1 = c0 + size_of x.variables in
    let next' : Unit {0} → Meaning (Unit {0}) = λ u. behind_variables around' x.body in
    subst (λ flow. Comes code credits f (services_of p) (behind_aims k wanted) flow)
    (sym (block_means c.around x.head x.body c.calling.parent w.acts p.state h.0.kind h.1.shallow))
    (calls_return k (made_at c >> behind_variables around' x.body) credits left_over wanted f is
    (λ g at.
    let flow = made_at c w.acts start.state in
    comes_on w.acts flow next'
    (comes_map (unpaid_aims like i low (act_index c) c1 left_over)
    (before code (body_aims k left_over) w.acts next') refl flow
    (λ c' f' v' r s (o : GoesUnpaid like i low (act_index c) c1 c' f' v' s).
    let since = o.since in
    onward closed o.reach
    (λ g' at'.
    subst (λ s'. Comes code c1 g' (services_of o.first) (body_aims k left_over)
    (behind_variables around' x.body w.acts s')) (sym o.state)
    (entry_goes w code c p o.first numbers o.numbers c1 g' h.0 o.begun o.image (o.others, o.words)
    (each o.first o.begun o.bound)
    (omega (arith, few, since, same)) (omega (arith, n0, n1, n2, n3, paid)) at')))
    (λ c' f' v' height label s o. absurd o)
    (λ c' f' v' r s o. o.to)
    (makes c0 c1 g new (front_of x.variables (behind_made c) l0) (omega arith, omega (arith, n0, n1, paid)) at)))
    there gives)

pub procedure_runs :
    (w : Surroundings) (code : List Instr) (c : Callee) (p : Point) (numbers : ℕ → ℕ) (credits wanted : ℕ)
    (f : Family) → Stands w p × IsImage w code p → IsCallee w code c × HasRoom w p c.procedure c.calling →
    Makes (site_at w code c p numbers) left_over (made_at c) → ((n : ℕ) → numbers n < 2 ^ 32) →
    ((first : Point) → IsBegun (block_from w code c p numbers first) →
    EachDoes (block_from w code c p numbers first) (labels_of c) c.procedure.body (body_index c) left_over) →
    w.acts < c.around.turns + (p.state.world.acts + 1) →
    credits + 4 + size_of (procedure_code c.environment c.procedure) ≤ cost code →
    AreIn w p numbers c.calling.call f →
    ((b : Base) → IsCalling p (beginning_for w p numbers c.procedure c.calling) b (f b)) →
    Comes code credits f (services_of p) (behind_aims (called_at w code c p numbers) wanted)
    (M.block_run c.around (block_of c.procedure) (begun (block_of c.procedure) c.calling.parent) w.acts p.state)
procedure_runs w code c p numbers credits wanted f known h makes words each =
    unpaid_runs None w code c p numbers credits wanted f known h
    (paid_makes (site_at w code c p numbers) left_over (made_at c) makes) words (λ first b bound. each first b)
