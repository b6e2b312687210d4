-- A copy that passes the limit on what is AUTOMATIC ends the run where it would be made, and so does a call with it.
use Rattle.std.proofs.Common.{◌≡◌, ℕ, ◌+◌, ◌-◌, ◌^◌, ◌<◌, ◌≤◌, List, ◌∷◌, ◌++◌, length, map}
use Rattle.std.proofs.Common.{true, false, refl, sym, ap, ◌∙◌, subst, arith}
use Rattle.std.specs.Prelude.{cond, nat_le, pos, ◌==◌}
use Rattle.rv_meaning.specs.declared.instr.BranchTest.TheVariants as Test
use Rattle.rv_meaning.specs.declared.instr.Instr.{Instr}
use Rattle.rv_meaning.specs.declared.instr.Instr.TheVariants as I
use Rattle.pli_typing.specs.TypedTree as Y
use Rattle.pli_meaning.specs.Contents.{footprint_of, fresh}
use Rattle.pli_meaning.specs.Control.{stored}
use Rattle.pli_meaning.specs.StorageState.{automatic_in_use, most_automatic}
use Rattle.pli_meaning.specs.World.{ending}
use Rattle.pli_meaning.specs.declared.outcome.End.TheVariants as E
use Rattle.pli_meaning.specs.declared.outcome.Limit.TheVariants as W
use Rattle.pli_serving.specs.ActsAndEnds.{run_ended}
use Rattle.pli_serving.specs.Answers as N
use Rattle.pli_serving.specs.Answers.{Ends}
use Rattle.pli_serving.specs.Arguments.{shape_of_number}
use Rattle.pli_serving.specs.InitialValues.{initial_values}
use Rattle.pli_serving.specs.Making as G
use Rattle.pli_serving.specs.Outcomes.{or_bad}
use Rattle.pli_serving.specs.ServiceState as S
use Rattle.pli_coding.specs.Assembly.{Plain, size_of}
use Rattle.pli_coding.specs.Entries.{arguments_copied}
use Rattle.pli_coding.specs.Environments.{Environment}
use Rattle.pli_coding.specs.Instructions.{number, skip_where}
use Rattle.pli_coding.specs.Registers.{a1, u4, zero_register}
use Rattle.storage_relation.specs.Served.{Holds}
use Rattle.storage_relation.proofs.Changes.{limit_same}
use Rattle.storage_relation.proofs.Holders.{eqb-other}
use Rattle.activation_relation.specs.Layers.{Layer, Point, activation_of, now, services_of}
use Rattle.activation_relation.specs.Points.{Surroundings}
use Rattle.run_steps.proofs.Bodies.{constant_piece, zero_is}
use Rattle.run_steps.specs.Calls.{Calling}
use Rattle.run_steps.proofs.Calls.{acts, call_ends, called, end_pauses}
use Rattle.run_steps.specs.Engine.{Base, call_at}
use Rattle.run_steps.specs.Items.{Linked}
use Rattle.run_steps.proofs.Jumps.{back_of, first_of, front_of, rest_of, skip_passed}
use Rattle.run_steps.proofs.Linking.{size_append}
use Rattle.run_steps.specs.Reach.{Family, cost, reached}
use Rattle.run_steps.proofs.Reach.{reached_holds}
use Rattle.run_steps.specs.Unlimited as U
use Rattle.block_runs.specs.Machines.{IsIn}
use Rattle.block_runs.proofs.BlockEntries.{word_fits, word_is}
use Rattle.block_runs.proofs.PointGrounds.{point_frame}
use Rattle.argument_runs.specs.Copies.{Copy, IsCopied, copy_generation}
use Rattle.argument_runs.specs.ListBeginnings.{KeepsList}
use Rattle.argument_runs.specs.Lists.{layered, list_under}
use Rattle.argument_runs.proofs.Copies.{asked, asking_comes, flag_comes}
use Rattle.argument_runs.proofs.CopyCode.{asking_code, coded, filling_code, flag_code, making_code}
use Rattle.argument_runs.proofs.CopyPoints.{Around, bounded, owner_given, zero_generation}
use Rattle.nested_calls.specs.FullVariables.{Over}
use Rattle.nested_calls.proofs.DeepBeginnings.{one_more}
use Rattle.nested_calls.proofs.FullVariables.{limit_passed, over_then}

-- ---- what service 7 answers

limit_answer :
    {w : Surroundings} {code : List Instr} {p : Point} {ψ φ : Layer} {φs : List Layer} {x : Copy} (m m' : List ℕ) →
    Around w code p ψ φ φs x →
    nat_le (automatic_in_use p.state.living + footprint_of (copy_generation x)) most_automatic ≡ false →
    Holds (now p m') →
    U.make_served (call_at code (services_of p) m) (list_under φ.at) x.number 0 (ψ.lower - 16) 2
    ≡ run_ended (E.Limit W.Automatic) (services_of p)
limit_answer {w} {code} {p} {ψ} {φ} {φs} {x} m m' k many h =
    let v = services_of p in
    let c = call_at code v m in
    let g = zero_generation in
    let name = list_under φ.at in
    let place = ψ.lower - 16 in
    let owner = S.height v in
    let high = ap (λ ls. length (map activation_of ls)) k.is.newest in
    let limit : G.passes_limit v owner g ≡ true =
    limit_same (now p m') h owner g
    ∙ limit_passed (owner == 0) _ (eqb-other owner 0 (λ e. omega (arith, high, e))) many in
    ap (λ q. or_bad q (λ own. or_bad (shape_of_number c x.number) (λ s. or_bad (initial_values c s.signature.leaves 0)
    (λ values. U.limited c name x.number place own (fresh s (pos 0) values))))) (owner_given p ψ _ k.is.newest)
    ∙ ap (λ q. or_bad q (λ s. or_bad (initial_values c s.signature.leaves 0)
    (λ values. U.limited c name x.number place owner (fresh s (pos 0) values)))) k.is.shape
    ∙ ap (λ q. cond q (run_ended (E.Limit W.Automatic) v)
    (U.variable_made c name x.number place owner (p.state.serials + 1) g)) limit

-- ---- the code up to there

pub copy_ends :
    {w : Surroundings} {code : List Instr} {p : Point} {numbers : ℕ → ℕ} {ψ φ : Layer} {φs : List Layer} {x : Copy}
    {e : Environment} {parameters : List ℕ} {d : Y.DeclaredVariable} (c index : ℕ) (f : Family) →
    Around w code p ψ φ φs x →
    nat_le (automatic_in_use p.state.living + footprint_of (copy_generation x)) most_automatic ≡ false →
    IsCopied e parameters d x →
    (c + size_of (arguments_copied e parameters) ≤ cost code) × (w.acts + 1 < 2 ^ 64) →
    Linked w.links code index (arguments_copied e parameters) →
    ((b : Base) → IsIn w p numbers index b (f b) × KeepsList (list_under φ.at) b (f b)) →
    Over code c f (services_of p) (E.Limit W.Automatic) p.state
copy_ends {w} {code} {p} {numbers} {ψ} {φ} {φs} {x} {e} {parameters} {d} c index f k many by fits l there =
    let c' = coded e parameters d x by in
    let size = ap (λ u. size_of u) c' in
    let h = point_frame k.stands k.image in
    let h' = (bounded k).frame in
    let making = making_code x.number in
    let num = number a1 x.number in
    let tail = Plain I.Ecall ∷ filling_code in
    let l0 = subst (Linked w.links code index) c' l in
    let l1 = back_of flag_code (skip_where Test.Equal u4 zero_register making) l0 in
    let l2 = rest_of _ making l1 in
    let l3 = back_of num (asking_code ++ tail) l2 in
    let l4 = back_of asking_code tail l3 in
    let n0 = size_append num (asking_code ++ tail) in
    let r1 = flag_comes k h c f (front_of flag_code (skip_where Test.Equal u4 zero_register making) l0) there in
    let r2 = skip_passed (c + 1) (reached r1) Test.Equal u4 zero_register making l1 (reached_holds r1)
    (λ b. let o = (reached_holds r1 b).holds in
    ap (λ u. u == (reached r1 b).machine.registers 0) o.regs.0 ∙ ap (λ u. 1 == u) (zero_is o.body)) in
    let r3 = constant_piece (c + 1 + 1) (reached r2) a1 (pos x.number) (word_fits x.number k.is.number)
    (record { reserved_stay = λ y u. refl; known_stay = λ b y u o. o; set = λ y u. refl })
    (front_of num (asking_code ++ tail) l2)
    (λ b. let o = reached_holds r2 b in record { pc = o.pc; holds = o.holds }) in
    let r4 = asking_comes k h h' (c + 1 + 1 + size_of num) (reached r3) (front_of asking_code tail l3)
    (λ b. let o = reached_holds r3 b in
    record {
      pc = o.pc;
      holds = record {
        body = o.holds.body;
        regs = (o.holds.regs.0 ∙ word_is x.number k.is.number, o.holds.regs.1);
      };
    }) in
    let paid = fits.0 in
    let at = c + 1 + 1 + size_of num + size_of asking_code in
    let q = asked ψ φ φs x p in
    let v = services_of q in
    let v' = N.with_world (ending (E.Limit W.Automatic) v.world) v in
    let g = reached r4 in
    let L = list_under φ.at in
    let same : v ≡ services_of p = sym (ap (λ ls. services_of (layered ls p)) k.is.newest) in
    let calling : Calling w.links code _ g (λ b. Ends v') = record {
      linked = first_of (Plain I.Ecall) filling_code l4;
      pc = λ b. (reached_holds r4 b).pc;
      answers = λ b.
          let o = (reached_holds r4 b).holds in
          let m = (g b).machine.memory in
          called code (g b) v 7 L x.number 0 (ψ.lower - 16) 2
          (λ call x0 x1 x2 x3 x4. U.make_served call x0 x1 x2 x3 x4) o.body.services o.regs.0 o.regs.1.1.1.1.1.0
          o.regs.1.1.1.1.0 o.regs.1.1.1.0 o.regs.1.1.0 o.regs.1.0 (λ call y. refl)
          ∙ ap (λ u. U.make_served (call_at code u m) L x.number 0 (ψ.lower - 16) 2) same
          ∙ limit_answer m m k many (old_now m o.body.memory.storage)
          ∙ ap (λ u. run_ended (E.Limit W.Automatic) u) (sym same)
          ∙ acts v w.acts (Ends v') k.stands.allowed fits.1;
    } in
    over_then r1 (over_then r2 (over_then r3 (over_then r4
    (record {
      paused = v;
      paused_is = refl;
      pausing = end_pauses at g v v' (omega (arith, paid, size, n0)) k.stands.running
          (λ b. (reached_holds r4 b).holds.body.services) (one_more v.world.acts) calling;
      ended = v';
      ended_is = refl;
      ending_there = call_ends at g v v' (λ z. cc z) calling;
    }))))
  where
    old_now : (m : List ℕ) → Holds (now (asked ψ φ φs x p) m) → Holds (now p m)
    old_now m h =
        record {
          keeps = h.keeps;
          heap = record { at = h.heap.at; capacity = h.heap.capacity };
          lives = record { falling = h.lives.falling; numbered = h.lives.numbered; extents = h.lives.extents };
          stored = h.stored;
          distinct = h.distinct;
        }
