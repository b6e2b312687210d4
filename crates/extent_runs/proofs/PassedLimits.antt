-- Where a variable whose size the run tells passes the limit on what is AUTOMATIC, service 7 ends the run.
use Rattle.std.proofs.Common.{◌≡◌, ℕ, suc, ◌+◌, ◌^◌, ◌<◌, ◌≤◌, List, [], ◌∷◌, ◌++◌, length, map}
use Rattle.std.proofs.Common.{true, refl, ap, ◌∙◌, subst, arith}
use Rattle.std.specs.Prelude.{cond, pos, ◌==◌}
use Rattle.rv_meaning.specs.declared.instr.Instr.{Instr}
use Rattle.rv_meaning.specs.declared.instr.Instr.TheVariants as I
use Rattle.rv_meaning.specs.declared.instr.RegisterOp.TheVariants as Op
use Rattle.rv_meaning.specs.Machine.{value}
use Rattle.rv_meaning.specs.Words.{operated}
use Rattle.pli_meaning.specs.Contents.{footprint_of, fresh}
use Rattle.pli_meaning.specs.Control.{Normal, choose, finish, looked, stored, ◌>>=◌}
use Rattle.pli_meaning.specs.Making as K
use Rattle.pli_meaning.specs.StorageState.{automatic_in_use}
use Rattle.pli_meaning.specs.World.{ending}
use Rattle.pli_meaning.specs.declared.outcome.End.TheVariants as E
use Rattle.pli_meaning.specs.declared.outcome.Limit.TheVariants as L
use Rattle.pli_serving.specs.ActsAndEnds.{run_ended}
use Rattle.pli_serving.specs.Answers as N
use Rattle.pli_serving.specs.Answers.{Ends}
use Rattle.pli_serving.specs.Arguments.{shape_of_number}
use Rattle.pli_serving.specs.InitialValues.{initial_values}
use Rattle.pli_serving.specs.Making as G
use Rattle.pli_serving.specs.Outcomes.{or_bad}
use Rattle.pli_serving.specs.ServiceState as S
use Rattle.pli_serving.specs.SignatureService.{number_of, reserved_for}
use Rattle.pli_serving.specs.Templates.{shape_of}
use Rattle.pli_coding.specs.Assembly.{DataPlace, Datum, Plain, size_of}
use Rattle.pli_coding.specs.Environments.{none_taken}
use Rattle.pli_coding.specs.Extents.{filled_in}
use Rattle.pli_coding.specs.Frames.{name_bytes}
use Rattle.pli_coding.specs.Instructions.{plus}
use Rattle.pli_coding.specs.Linking.{place_of}
use Rattle.pli_coding.specs.Registers.{a0, a2, a3, frame_register, stack_register}
use Rattle.storage_relation.specs.Served.{Holds}
use Rattle.storage_relation.proofs.Changes.{limit_same}
use Rattle.storage_relation.proofs.Holders.{eqb-other}
use Rattle.activation_relation.specs.Layers.{Layer, Point, activation_of, now, services_of}
use Rattle.activation_relation.specs.Points.{Stands, Surroundings}
use Rattle.run_steps.specs.Calls.{Calling}
use Rattle.run_steps.proofs.Calls.{acts, call_ends, called, end_pauses}
use Rattle.run_steps.specs.Engine.{Base, call_at}
use Rattle.run_steps.specs.Items.{Linked}
use Rattle.run_steps.proofs.Jumps.{back_of, front_of}
use Rattle.run_steps.proofs.Linking.{size_append}
use Rattle.run_steps.specs.Reach.{Family, cost, reached}
use Rattle.run_steps.proofs.Reach.{reached_holds}
use Rattle.run_steps.specs.Unlimited as U
use Rattle.block_runs.specs.Machines.{AreIn, IsImage, IsIn}
use Rattle.program_runs.specs.Statements.{Block, IsAmong}
use Rattle.program_runs.proofs.Variables.{own_code}
use Rattle.argument_runs.proofs.GivenLists.{with_list_stands}
use Rattle.nested_calls.specs.FullVariables.{Over}
use Rattle.nested_calls.proofs.FullVariables.{limit_passed, over_then}
use Rattle.extent_runs.specs.Lists.{HasPlaces}
use Rattle.extent_runs.specs.PassedLimits.{IsPassing, PassesLimit}
use Rattle.extent_runs.specs.Placing.{Adjustable, Placement, generation_of, placing_code}
use Rattle.extent_runs.specs.Signatures.{Filling, IsFilling, filled_point}
use Rattle.extent_runs.specs.Words.{IsWaiting, answered_point, both_wait}
use Rattle.extent_runs.proofs.Lists.{list_found}
use Rattle.extent_runs.proofs.Placing.{owner_given}
use Rattle.extent_runs.proofs.PlacingCode.{IsSited, behind_lower, bounded, given_code, given_comes, lower_grows}
use Rattle.extent_runs.proofs.PlacingCode.{lowered_holds, lowering_code, name_placed, pieces_coded, stack_grows}
use Rattle.extent_runs.proofs.Signatures.{filled_stands}
use Rattle.extent_runs.proofs.Words.{filled_in_comes}

-- ---- the meaning

pub passed_means :
    (p : Point) (x : Adjustable) (φ : Layer) (φs : List Layer) (acts : ℕ) → PassesLimit p x φ φs →
    K.variable_made x.index (generation_of x) acts p.state ≡ finish (E.Limit L.Automatic) acts p.state
unfolding K.variable_made looked choose stored ◌>>=◌
passed_means p x φ φs acts is =
    ap (λ q. cond q (Normal tt (K.with_variable x.index (generation_of x) p.state))
    (finish (E.Limit L.Automatic) acts p.state)) is.limit

-- ---- what service 7 answers

passed_answer :
    (code : List Instr) {p : Point} {x : Adjustable} {φ : Layer} {φs : List Layer} (m : List ℕ) →
    PassesLimit p x φ φs → Holds (now p m) → (name place : ℕ) →
    U.make_served (call_at code (services_of p) m) name x.number 0 place 0
    ≡ run_ended (E.Limit L.Automatic) (services_of p)
passed_answer code {p} {x} {φ} {φs} m k h name place =
    let v = services_of p in
    let c = call_at code v m in
    let g = generation_of x in
    let owner = S.height v in
    let high = ap (λ ls. length (map activation_of ls)) k.newest in
    let limit : G.passes_limit v owner g ≡ true =
    limit_same (now p m) h owner g
    ∙ limit_passed (owner == 0) (automatic_in_use p.state.living + footprint_of g)
    (eqb-other owner 0 (λ e. omega (arith, high, e))) k.limit in
    ap (λ q. or_bad q (λ own. or_bad (shape_of_number c x.number) (λ s. or_bad (initial_values c s.signature.leaves 0)
    (λ values. U.limited c name x.number place own (fresh s (pos 0) values))))) (owner_given p φ φs k.newest)
    ∙ ap (λ q. or_bad q (λ s. or_bad (initial_values c s.signature.leaves 0)
    (λ values. U.limited c name x.number place owner (fresh s (pos 0) values)))) k.shape
    ∙ ap (λ q. cond q (run_ended (E.Limit L.Automatic) v)
    (U.variable_made c name x.number place owner (p.state.serials + 1) g)) limit

-- ---- its code

word_left : (n k : ℕ) → operated Op.Subtract n k < 2 ^ 32
word_left n k = omega arith

sited_there :
    (w : Surroundings) (p : Point) (z : Placement) → IsPassing p z →
    IsSited w p z (operated Op.Subtract z.layer.lower z.variable.bytes)
sited_there w p z k =
    record {
      newest = k.is.newest;
      here = k.is.here;
      initial = k.initial;
      words = k.words;
      number = k.number;
      bytes = k.bytes;
      lowers = refl;
      small' = word_left z.layer.lower z.variable.bytes;
    }

one_more : (n : ℕ) → n + 1 ≡ suc n
one_more n = omega arith

pub passed_ends :
    (w : Surroundings) (code : List Instr) (p : Point) (numbers : ℕ → ℕ) (z : Placement) (c index : ℕ) (f : Family) →
    Stands w p × IsImage w code p → IsPassing p z →
    (c + size_of (placing_code z) ≤ cost code) × (w.acts + 1 < 2 ^ 64) →
    Linked w.links code index (placing_code z) → AreIn w p numbers index f →
    Over code c f (services_of p) (E.Limit L.Automatic) p.state
passed_ends w code p numbers z c index f known k fits l there =
    let φ = z.layer in
    let x = z.variable in
    let low = operated Op.Subtract φ.lower x.bytes in
    let site = sited_there w p z k in
    let o = bounded z known site in
    let coded = pieces_coded z k.initial in
    let size = ap (λ u. size_of u) coded in
    let v = services_of p in
    let v' = N.with_world (ending (E.Limit L.Automatic) v.world) v in
    let stack = plus stack_register frame_register (pos (x.place + name_bytes)) in
    let own = own_code a0 x.place in
    let last = Plain I.Ecall ∷ [] in
    let paid = fits.0 in
    let l0 = subst (Linked w.links code index) coded l in
    let l1 = back_of stack (lowering_code ++ behind_lower z) l0 in
    let l2 = back_of lowering_code (behind_lower z) l1 in
    let l3 = back_of own (given_code ++ last) l2 in
    let n0 = size_append stack (lowering_code ++ behind_lower z) in
    let n1 = size_append own (given_code ++ last) in
    let r1 = stack_grows z c f known o (front_of stack (lowering_code ++ behind_lower z) l0) there in
    let r2 = lower_grows z (c + size_of stack) (reached r1) site o (front_of lowering_code (behind_lower z) l1)
    (reached_holds r1) in
    let r3 = name_placed z (c + size_of stack + 4) (reached r2) site o (front_of own (given_code ++ last) l2)
    (reached_holds r2) in
    let r4 = given_comes z (c + size_of stack + 4 + size_of own) (reached r3) site o (front_of given_code last l3)
    (reached_holds r3) in
    let g = reached r4 in
    let i = index + size_of stack + 4 + size_of own + 5 in
    let calling : Calling w.links code i g (λ b. Ends v') = record {
      linked = back_of given_code last l3;
      pc = λ b. (reached_holds r4 b).pc;
      answers = λ b.
          let q = (reached_holds r4 b).holds in
          let m = (g b).machine.memory in
          called code (g b) v 7 (φ.at + x.place) x.number 0 low 0
          (λ call x0 x1 x2 x3 x4. U.make_served call x0 x1 x2 x3 x4) q.body.services q.regs.0 q.regs.1.1.1.1.1.0
          q.regs.1.1.1.1.0 q.regs.1.1.1.0 q.regs.1.1.0 q.regs.1.0 (λ call y. refl)
          ∙ passed_answer code m k.is (lowered_holds z known site o q.body.memory) (φ.at + x.place) low
          ∙ acts v w.acts (Ends v') known.0.allowed fits.1;
    } in
    over_then r1 (over_then r2 (over_then r3 (over_then r4
    (record {
      paused = v;
      paused_is = refl;
      pausing = end_pauses (c + size_of stack + 4 + size_of own + 5) g v v'
          (omega (arith, paid, size, n0, n1)) known.0.running
          (λ b. (reached_holds r4 b).holds.body.services) (one_more v.world.acts) calling;
      ended = v';
      ended_is = refl;
      ending_there = call_ends (c + size_of stack + 4 + size_of own + 5) g v v' (λ z'. cc z') calling;
    }))))

-- ---- from both bounds on

pub bounds_end :
    (k : Block) (p : Point) (x : Filling) (φ : Layer) (φs : List Layer) (z : Placement) (numbers : ℕ → ℕ)
    (places : Datum) (c index : ℕ) (f : Family) → IsAmong k numbers p → HasPlaces k x →
    IsFilling p x × IsWaiting p x φ φs → IsPassing (answered_point x φ φs p) z →
    place_of k.call.surroundings.links (DataPlace places) ≡ x.at →
    (c + size_of (filled_in none_taken places ++ placing_code z) ≤ cost k.call.code)
    × (k.call.surroundings.acts + 1 < 2 ^ 64) →
    Linked k.call.surroundings.links k.call.code index (filled_in none_taken places ++ placing_code z) →
    ((b : Base) → IsIn k.call.surroundings p numbers index b (f b)
    × (value (f b).machine a2 ≡ x.lower) × (value (f b).machine a3 ≡ x.upper)) →
    Over k.call.code c f (services_of p) (E.Limit L.Automatic) p.state
bounds_end k p x φ φs z numbers places c index f o has is h place paid l at =
    let w = k.call.surroundings in
    let code = k.call.code in
    let inside = has.constants.inside in
    let first = filled_in none_taken places in
    let second = placing_code z in
    let n = size_append first second in
    let enough = paid.0 in
    let q = answered_point x φ φs p in
    let r = filled_in_comes w code p x φ φs numbers places c index f (o.stands, o.image) is (place, omega (arith, inside))
    (front_of first second l)
    (λ b. (
      (at b).0,
      record {
        lower = (at b).1;
        upper = (at b).2;
        list = list_found k numbers p (f b).machine.memory x o (at b).0.at.storage has;
      },
    )) in
    let new = with_list_stands w code (filled_point x.template p) φ φs
    (both_wait (number_of x.template p.places.signatures) (reserved_for p.keeper (shape_of x.template)))
    (filled_stands w code p x.template (o.stands, o.image)) is.1.newest in
    same_end (over_then r
    (passed_ends w code q numbers z (c + size_of first) (index + size_of first) (reached r) new h
    (omega (arith, n, enough), paid.1) (back_of first second l) (reached_holds r)))
  where
    same_end :
        Over k.call.code c f (services_of p) (E.Limit L.Automatic) (answered_point x φ φs p).state →
        Over k.call.code c f (services_of p) (E.Limit L.Automatic) p.state
    same_end u = u
