-- A variable that passes the limit on what is AUTOMATIC: service 7 ends the run, as the meaning does.
use Rattle.std.proofs.Common.{◌≡◌, ℕ, suc, ◌+◌, ◌^◌, ◌<◌, ◌≤◌, List, [], ◌∷◌, ◌++◌, length, map, None, Some, Bool}
use Rattle.std.proofs.Common.{true, false, refl, sym, ap, ◌∙◌, subst, arith}
use Rattle.std.proofs.lemmas.Bool.{lt-ltb}
use Rattle.std.proofs.lemmas.Bool.Decides.{nat_tests}
use Rattle.std.proofs.lemmas.List.{append_assoc}
use Rattle.std.specs.Prelude.{cond, nat_le, nat_lt, pos, ◌==◌}
use Rattle.rv_meaning.specs.declared.instr.Instr.{Instr}
use Rattle.rv_meaning.specs.declared.instr.Instr.TheVariants as I
use Rattle.rv_meaning.specs.Machine.{memory_size}
use Rattle.pli_meaning.specs.Contents.{footprint_of, fresh}
use Rattle.pli_meaning.specs.Control.{Flow, Meaning, finish}
use Rattle.pli_meaning.specs.Control as F
use Rattle.pli_meaning.specs.DeclaredShapes.{shape_of}
use Rattle.pli_meaning.specs.StorageState.{State, automatic_in_use, most_automatic, with_world}
use Rattle.pli_meaning.specs.World.{ending}
use Rattle.pli_meaning.specs.declared.outcome.End.{End}
use Rattle.pli_meaning.specs.declared.outcome.End.TheVariants as E
use Rattle.pli_meaning.specs.declared.outcome.Limit.TheVariants as L
use Rattle.pli_serving.specs.ActsAndEnds.{run_ended}
use Rattle.pli_serving.specs.Answers as N
use Rattle.pli_serving.specs.Answers.{Answer, Ends}
use Rattle.pli_serving.specs.Arguments.{shape_of_number}
use Rattle.pli_serving.specs.InitialValues.{initial_values}
use Rattle.pli_serving.specs.Making as G
use Rattle.pli_serving.specs.Outcomes.{or_bad}
use Rattle.pli_serving.specs.ServiceState as S
use Rattle.pli_serving.specs.ServiceState.{Services}
use Rattle.pli_coding.specs.Assembly.{Plain, size_of}
use Rattle.pli_coding.specs.Entries.{constant_made}
use Rattle.pli_coding.specs.Environments.{Environment}
use Rattle.pli_coding.specs.Frames.{name_bytes}
use Rattle.pli_coding.specs.Instructions.{number}
use Rattle.pli_coding.specs.Locating.{table_number}
use Rattle.pli_coding.specs.Registers.{a1}
use Rattle.pli_coding.specs.StaticForms.{initial_datum}
use Rattle.storage_relation.specs.Served.{Holds}
use Rattle.storage_relation.proofs.Changes.{limit_same}
use Rattle.storage_relation.proofs.Holders.{eqb-other}
use Rattle.activation_relation.specs.Frames.{frame_under}
use Rattle.activation_relation.specs.Layers.{Layer, Point, activation_of, now, services_of}
use Rattle.activation_relation.specs.Points.{Stands, Surroundings}
use Rattle.image_runs.specs.Runs.{Whole}
use Rattle.run_steps.specs.Calls.{Calling}
use Rattle.run_steps.proofs.Calls.{acts, call_ends, called, end_pauses}
use Rattle.run_steps.specs.Engine.{Base, call_at}
use Rattle.run_steps.specs.Items.{Linked}
use Rattle.run_steps.proofs.Jumps.{back_of, first_of, front_of}
use Rattle.run_steps.proofs.Linking.{size_append}
use Rattle.run_steps.specs.Reach.{Aims, Comes, Family, Reach, cost, reached}
use Rattle.run_steps.proofs.Reach.{ending_then, pausing_then, reach_then, reached_holds}
use Rattle.run_steps.specs.Unlimited as U
use Rattle.block_runs.specs.Machines.{AreIn, IsImage, IsIn}
use Rattle.block_runs.proofs.PointGrounds.{point_frame}
use Rattle.program_runs.specs.Variables.{Declared, generation_for}
use Rattle.program_runs.proofs.Initial.{place_near, values_read}
use Rattle.program_runs.proofs.Variables.{all_asked, asking_code, behind_data, data_code, front_asked, front_code}
use Rattle.program_runs.proofs.Variables.{given_code, given_place, made_coded, name_code, split_code, stack_code}
use Rattle.nested_calls.specs.FullVariables.{Over, PassesLimit}

-- ---- ends of runs

over_by :
    {R : Type 0} {code : List Instr} {c : ℕ} {f : Family} {v : Services} {aims : Aims R} {end : End} {s : State}
    (q : Bool) → Over code c f v end s →
    Comes code c f v aims (cond q (F.Ended (with_world (ending end s.world) s)) (F.Paused s))
over_by true o = record { to = λ early. (o.ended, o.ended_is, o.ending_there) }
over_by false o = record { to = λ early. (o.paused, o.paused_is, o.pausing) }

pub over_comes :
    {R : Type 0} {code : List Instr} {c : ℕ} {f : Family} {v : Services} {aims : Aims R} (end : End) (k : ℕ)
    (s : State) → Over code c f v end s → Comes code c f v aims (finish {R = R} end k s)
unfolding finish
over_comes end k s o = over_by (nat_lt s.world.acts k) o

pub over_then :
    {code : List Instr} {i : ℕ} {f : Family} {v : Services} {i' : ℕ} {v' : Services} {Q : Base → Whole → Type 0}
    {end : End} {s : State} (r : Reach code i f v i' v' Q) → Over code i' (reached r) v' end s →
    Over code i f v end s
over_then r o =
    record {
      paused = o.paused;
      paused_is = o.paused_is;
      pausing = pausing_then r o.pausing;
      ended = o.ended;
      ended_is = o.ended_is;
      ending_there = ending_then r o.ending_there;
    }

-- ---- what service 7 answers

pub limit_passed :
    (q : Bool) (used : ℕ) → q ≡ false → nat_le used most_automatic ≡ false →
    cond q false (nat_lt most_automatic used) ≡ true
limit_passed true used e few = absurd (cc e)
limit_passed false used e few = grind (arith, few, nat_tests)

owner_some : (height : ℕ) → 0 < height → G.owner_of 0 height ≡ Some height
owner_some height some = ap (λ q. cond q (Some height) None) (lt-ltb 0 height some)

limit_answer :
    {w : Surroundings} (code : List Instr) {p : Point} {x : Declared} {φ : Layer} {φs : List Layer} (m : List ℕ) →
    PassesLimit w code p x φ φs → length m ≡ memory_size → Holds (now p m) → 0 < length code → (name place : ℕ) →
    U.make_served (call_at code (services_of p) m) name x.number (given_place w.links x) place 0
    ≡ run_ended (E.Limit L.Automatic) (services_of p)
limit_answer {w} code {p} {x} m k bytes h some name place =
    let v = services_of p in
    let c = call_at code v m in
    let g = generation_for x in
    let shape = shape_of [] x.declared in
    let owner = S.height v in
    let at = given_place w.links x in
    let high = ap (λ ls. length (map activation_of ls)) k.newest in
    let limit : G.passes_limit v owner g ≡ true =
    limit_same (now p m) h owner g
    ∙ limit_passed (owner == 0) (automatic_in_use p.state.living + footprint_of g)
    (eqb-other owner 0 (λ e. omega (arith, high, e))) k.limit in
    ap (λ q. or_bad q (λ own. or_bad (shape_of_number c x.number) (λ s. or_bad (initial_values c s.signature.leaves at)
    (λ values. U.limited c name x.number place own (fresh s (pos 0) values)))))
    (owner_some owner (omega (arith, high)))
    ∙ ap (λ q. or_bad q (λ s. or_bad (initial_values c s.signature.leaves at)
    (λ values. U.limited c name x.number place owner (fresh s (pos 0) values)))) k.shape
    ∙ ap (λ values. or_bad values (λ given. U.limited c name x.number place owner (fresh shape (pos 0) given)))
    (values_read code p w.links.data' x.declared m k.initial some bytes h)
    ∙ ap (λ q. cond q (run_ended (E.Limit L.Automatic) v)
    (U.variable_made c name x.number place owner (p.state.serials + 1) g)) limit

-- ---- the whole

one_more : (n : ℕ) → n + 1 ≡ suc n
one_more n = omega arith

pub variable_ends :
    (w : Surroundings) (code : List Instr) (e : Environment) (p : Point) (numbers : ℕ → ℕ) (x : Declared) (φ : Layer)
    (φs : List Layer) (c index : ℕ) (f : Family) → Stands w p × IsImage w code p →
    PassesLimit w code p x φ φs →
    (table_number e x.declared ≡ x.number) × (e.parts ≡ w.parts) →
    (c + size_of (constant_made e x.place x.declared) ≤ cost code) × (w.acts + 1 < 2 ^ 64) →
    Linked w.links code index (constant_made e x.place x.declared) → AreIn w p numbers index f →
    Over code c f (services_of p) (E.Limit L.Automatic) p.state
variable_ends w code e p numbers x φ φs c index f known is same fits l there =
    let h = point_frame known.0 known.1 in
    let v = services_of p in
    let v' = N.with_world (ending (E.Limit L.Automatic) v.world) v in
    let here = ap (λ ls. frame_under w.parts ls) is.newest in
    let inside = is.inside in
    let coded = made_coded w e x same in
    let size = ap (λ u. size_of u) coded in
    let l' = subst (Linked w.links code index) coded l in
    let name = name_code x in
    let num = number a1 x.number in
    let given = given_code x in
    let at = given_place w.links x in
    let data' = data_code x in
    let tail = behind_data w.parts x in
    let stack = stack_code w.parts x in
    let two = asking_code x in
    let n0 = size_append name (num ++ (given ++ (data' ++ tail))) in
    let n1 = size_append num (given ++ (data' ++ tail)) in
    let n2 = size_append data' tail in
    let n3 = size_append name (num ++ given) in
    let n4 = size_append num given in
    let n6 = size_append given (data' ++ tail) in
    let n5 = size_append data' two in
    let paid = fits.0 in
    let l1 = subst (Linked w.links code index) (split_code name num given data' tail) l' in
    let front = front_code x in
    let within = l1.inside in
    let l2 = back_of front (data' ++ tail) l1 in
    let l3 = subst (Linked w.links code (index + size_of front))
    (sym (append_assoc data' two (Plain I.Ecall ∷ stack))) l2 in
    let l4 = back_of (data' ++ two) (Plain I.Ecall ∷ stack) l3 in
    let r1 = front_asked x h c f (omega (arith, inside, here)) is.number
    (place_near p.places.constants code w.links.data' x.declared (initial_datum x.declared) is.initial)
    (front_of front (data' ++ tail) l1) there in
    let r2 = all_asked at x h (c + size_of front) (reached r1) (omega (arith, inside, here))
    (front_of (data' ++ two) (Plain I.Ecall ∷ stack) l3) (reached_holds r1) in
    let g = reached r2 in
    let i = index + size_of front + size_of (data' ++ two) in
    let name' = frame_under w.parts p.control.layers + x.place in
    let place = frame_under w.parts p.control.layers + (x.place + name_bytes) in
    let calling : Calling w.links code i g (λ b. Ends v') = record {
      linked = first_of (Plain I.Ecall) stack l4;
      pc = λ b. (reached_holds r2 b).pc;
      answers = λ b.
          let o = (reached_holds r2 b).holds in
          let m = (g b).machine.memory in
          called code (g b) v 7 name' x.number at place 0
          (λ call x0 x1 x2 x3 x4. U.make_served call x0 x1 x2 x3 x4) o.body.services o.regs.0 o.regs.1.1.1.1.1.0
          o.regs.1.1.1.1.0 o.regs.1.1.1.0 o.regs.1.1.0 o.regs.1.0 (λ call y. refl)
          ∙ limit_answer code m is o.body.bytes o.body.memory.storage (omega (arith, within)) name' place
          ∙ acts v w.acts (Ends v') known.0.allowed fits.1;
    } in
    over_then r1 (over_then r2
    (record {
      paused = v;
      paused_is = refl;
      pausing = end_pauses (c + size_of front + size_of (data' ++ two)) g v v'
          (omega (arith, paid, size, n0, n1, n2, n3, n4, n5, n6)) known.0.running
          (λ b. (reached_holds r2 b).holds.body.services) (one_more v.world.acts) calling;
      ended = v';
      ended_is = refl;
      ending_there = call_ends (c + size_of front + size_of (data' ++ two)) g v v' (λ z. cc z) calling;
    }))
