-- Copies that pass the limit on what is AUTOMATIC end the run where the first of them that does would be made.
use Rattle.std.proofs.Common.{◌≡◌, ℕ, ℤ, suc, ◌+◌, ◌-◌, ◌*◌, ◌^◌, ◌<◌, ◌≤◌, List, [], ◌∷◌, ◌++◌, length, map, Bool}
use Rattle.std.proofs.Common.{true, false, refl, sym, ap, ◌∙◌, arith}
use Rattle.std.proofs.lemmas.Bool.Decides.{nat_tests}
use Rattle.std.specs.Prelude.{cond, nat_le, pos, ◌==◌}
use Rattle.rv_meaning.specs.declared.instr.BranchTest.TheVariants as Test
use Rattle.rv_meaning.specs.declared.instr.Instr.{Instr}
use Rattle.rv_meaning.specs.declared.instr.Instr.TheVariants as I
use Rattle.pli_meaning.specs.Contents.{footprint_of, fresh}
use Rattle.pli_meaning.specs.Control.{Normal, choose, finish, flow_on, give, looked, stored, ◌>>=◌, ◌>>◌}
use Rattle.pli_meaning.specs.Making as K
use Rattle.pli_meaning.specs.Making.{with_variable}
use Rattle.pli_meaning.specs.StorageState.{State, automatic_in_use, most_automatic}
use Rattle.pli_meaning.specs.World.{ending}
use Rattle.pli_meaning.specs.declared.outcome.End.TheVariants as E
use Rattle.pli_meaning.specs.declared.outcome.Limit.TheVariants as W
use Rattle.pli_serving.specs.ActsAndEnds.{run_ended}
use Rattle.pli_serving.specs.Answers as N
use Rattle.pli_serving.specs.Answers.{Ends}
use Rattle.pli_serving.specs.Arguments.{shape_of_number}
use Rattle.pli_serving.specs.InitialValues.{initial_values}
use Rattle.pli_serving.specs.Making as G
use Rattle.pli_serving.specs.Outcomes.{or_bad}
use Rattle.pli_serving.specs.ServiceState as S
use Rattle.pli_coding.specs.Assembly.{Plain, size_of}
use Rattle.pli_coding.specs.Instructions.{number, skip_where}
use Rattle.pli_coding.specs.Registers.{a1, u4, zero_register}
use Rattle.storage_relation.specs.Served.{Holds}
use Rattle.storage_relation.proofs.Changes.{limit_same}
use Rattle.storage_relation.proofs.Holders.{eqb-other}
use Rattle.activation_relation.specs.FrameLaws.{with_waits}
use Rattle.activation_relation.specs.Layers.{Layer, Point, activation_of, now, services_of}
use Rattle.activation_relation.specs.Points.{Surroundings}
use Rattle.activation_relation.specs.Variables.{grown}
use Rattle.run_steps.proofs.Bodies.{constant_piece, zero_is}
use Rattle.run_steps.specs.Calls.{Calling}
use Rattle.run_steps.proofs.Calls.{acts, call_ends, called, end_pauses}
use Rattle.run_steps.specs.Engine.{Base, call_at}
use Rattle.run_steps.specs.Items.{Linked}
use Rattle.run_steps.proofs.Jumps.{back_of, first_of, front_of, rest_of, skip_passed}
use Rattle.run_steps.proofs.Linking.{size_append}
use Rattle.run_steps.specs.Reach.{Family, cost, reached}
use Rattle.run_steps.proofs.Reach.{reached_holds}
use Rattle.run_steps.specs.Unlimited as U
use Rattle.block_runs.specs.Machines.{IsIn}
use Rattle.block_runs.proofs.BlockEntries.{word_fits, word_is}
use Rattle.block_runs.proofs.PointGrounds.{point_frame}
use Rattle.argument_runs.specs.Copies.{Copy, copy_generation, copy_made_of}
use Rattle.argument_runs.specs.ListBeginnings.{KeepsList}
use Rattle.argument_runs.specs.Lists.{layered}
use Rattle.argument_runs.proofs.CopyCode.{filling_code}
use Rattle.argument_runs.proofs.CopyPoints.{owner_given, zero_generation}
use Rattle.nested_calls.specs.FullVariables.{Over}
use Rattle.nested_calls.proofs.DeepBeginnings.{one_more}
use Rattle.nested_calls.proofs.FullVariables.{limit_passed, over_then}
use Rattle.given_calls.proofs.FullCalls.{finish_on}
use Rattle.list_calls.specs.Lists.{Parameter, Passing, PassesCopy, PassesName, all_passed, copied_at, copies_in}
use Rattle.list_calls.specs.Lists.{copy_with, indices_of, name_told, named_as}
use Rattle.list_calls.proofs.Binding.{Binds, around, copy_next, copy_takes, copy_used, is_copy, name_comes, name_next}
use Rattle.list_calls.proofs.Bound.{copied_means}
use Rattle.list_calls.proofs.PartCode.{asking_code, copies_from, copy_code, flag_code, making_code}
use Rattle.list_calls.proofs.PartCopies.{asked, asking_comes, copy_comes, flag_comes}
use Rattle.list_calls.proofs.PartPoints.{Around, IsCopy, Part, bounded, part_at}

-- ---- what service 7 answers

limit_answer :
    {w : Surroundings} {code : List Instr} {p : Point} {ψ φ : Layer} {φs : List Layer} {t : Part} {x : Copy}
    (m m' : List ℕ) → Around w code p ψ φ φs t → IsCopy p ψ φ w t x →
    nat_le (automatic_in_use p.state.living + footprint_of (copy_generation x)) most_automatic ≡ false →
    Holds (now p m') →
    U.make_served (call_at code (services_of p) m) (part_at t) x.number 0 (ψ.lower - 16) 2
    ≡ run_ended (E.Limit W.Automatic) (services_of p)
limit_answer {w} {code} {p} {ψ} {φ} {φs} {t} {x} m m' k is many h =
    let v = services_of p in
    let c = call_at code v m in
    let g = zero_generation in
    let name = part_at t in
    let place = ψ.lower - 16 in
    let owner = S.height v in
    let high = ap (λ ls. length (map activation_of ls)) k.newest in
    let limit : G.passes_limit v owner g ≡ true =
    limit_same (now p m') h owner g
    ∙ limit_passed (owner == 0) _ (eqb-other owner 0 (λ e. omega (arith, high, e))) many in
    ap (λ q. or_bad q (λ own. or_bad (shape_of_number c x.number) (λ s. or_bad (initial_values c s.signature.leaves 0)
    (λ values. U.limited c name x.number place own (fresh s (pos 0) values))))) (owner_given p ψ _ k.newest)
    ∙ ap (λ q. or_bad q (λ s. or_bad (initial_values c s.signature.leaves 0)
    (λ values. U.limited c name x.number place owner (fresh s (pos 0) values)))) is.shape
    ∙ ap (λ q. cond q (run_ended (E.Limit W.Automatic) v)
    (U.variable_made c name x.number place owner (p.state.serials + 1) g)) limit

-- ---- one copy

copy_ends :
    {w : Surroundings} {code : List Instr} {p : Point} {numbers : ℕ → ℕ} {ψ φ : Layer} {φs : List Layer} {t : Part}
    {x : Copy} (c index : ℕ) (f : Family) (k : Around w code p ψ φ φs t) → IsCopy p ψ φ w t x →
    nat_le (automatic_in_use p.state.living + footprint_of (copy_generation x)) most_automatic ≡ false →
    (c + size_of (copy_code t.place x.number) ≤ cost code) × (w.acts + 1 < 2 ^ 64) →
    Linked w.links code index (copy_code t.place x.number) →
    ((b : Base) → IsIn w p numbers index b (f b) × KeepsList t.list b (f b)) →
    Over code c f (services_of p) (E.Limit W.Automatic) p.state
copy_ends {w} {code} {p} {numbers} {ψ} {φ} {φs} {t} {x} c index f k is many fits l there =
    let h = point_frame k.stands k.image in
    let h' = (bounded k).frame in
    let flag = flag_code t.place in
    let asking = asking_code t.place in
    let making = making_code t.place x.number in
    let num = number a1 x.number in
    let tail = Plain I.Ecall ∷ filling_code in
    let l1 = back_of flag (skip_where Test.Equal u4 zero_register making) l in
    let l2 = rest_of _ making l1 in
    let l3 = back_of num (asking ++ tail) l2 in
    let l4 = back_of asking tail l3 in
    let n0 = size_append num (asking ++ tail) in
    let n1 = size_append asking tail in
    let r1 = flag_comes k h 1 c f is.mark (front_of flag (skip_where Test.Equal u4 zero_register making) l) there in
    let r2 = skip_passed (c + 1) (reached r1) Test.Equal u4 zero_register making l1 (reached_holds r1)
    (λ b. let o = (reached_holds r1 b).holds in
    ap (λ u. u == (reached r1 b).machine.registers 0) o.regs.0 ∙ ap (λ u. 1 == u) (zero_is o.body)) in
    let r3 = constant_piece (c + 1 + 1) (reached r2) a1 (pos x.number) (word_fits x.number is.number)
    (record { reserved_stay = λ y u. refl; known_stay = λ b y u o. o; set = λ y u. refl })
    (front_of num (asking ++ tail) l2)
    (λ b. let o = reached_holds r2 b in record { pc = o.pc; holds = o.holds }) in
    let r4 = asking_comes k is h h' (c + 1 + 1 + size_of num) (reached r3) (front_of asking tail l3)
    (λ b. let o = reached_holds r3 b in
    record {
      pc = o.pc;
      holds = record {
        body = o.holds.body;
        regs = (o.holds.regs.0 ∙ word_is x.number is.number, o.holds.regs.1);
      };
    }) in
    let paid = fits.0 in
    let at = c + 1 + 1 + size_of num + size_of asking in
    let q = asked t ψ φ φs x p in
    let v = services_of q in
    let v' = N.with_world (ending (E.Limit W.Automatic) v.world) v in
    let g = reached r4 in
    let P = part_at t in
    let same : v ≡ services_of p = sym (ap (λ ls. services_of (layered ls p)) k.newest) in
    let calling : Calling w.links code _ g (λ b. Ends v') = record {
      linked = first_of (Plain I.Ecall) filling_code l4;
      pc = λ b. (reached_holds r4 b).pc;
      answers = λ b.
          let o = (reached_holds r4 b).holds in
          let m = (g b).machine.memory in
          called code (g b) v 7 P x.number 0 (ψ.lower - 16) 2
          (λ call x0 x1 x2 x3 x4. U.make_served call x0 x1 x2 x3 x4) o.body.services o.regs.0 o.regs.1.1.1.1.1.0
          o.regs.1.1.1.1.0 o.regs.1.1.1.0 o.regs.1.1.0 o.regs.1.0 (λ call y. refl)
          ∙ ap (λ u. U.make_served (call_at code u m) P x.number 0 (ψ.lower - 16) 2) same
          ∙ limit_answer m m k is many (old_now m o.body.memory.storage)
          ∙ ap (λ u. run_ended (E.Limit W.Automatic) u) (sym same)
          ∙ acts v w.acts (Ends v') k.stands.allowed fits.1;
    } in
    over_then r1 (over_then r2 (over_then r3 (over_then r4
    (record {
      paused = v;
      paused_is = refl;
      pausing = end_pauses at g v v' (omega (arith, paid, n0, n1)) k.stands.running
          (λ b. (reached_holds r4 b).holds.body.services) (one_more v.world.acts) calling;
      ended = v';
      ended_is = refl;
      ending_there = call_ends at g v v' (λ z. cc z) calling;
    }))))
  where
    old_now : (m : List ℕ) → Holds (now (asked t ψ φ φs x p) m) → Holds (now p m)
    old_now m h =
        record {
          keeps = h.keeps;
          heap = record { at = h.heap.at; capacity = h.heap.capacity };
          lives = record { falling = h.lives.falling; numbered = h.lives.numbered; extents = h.lives.extents };
          stored = h.stored;
          distinct = h.distinct;
        }

passed_means :
    (x : Parameter) (z : ℤ) (s : State) (acts : ℕ) →
    nat_le (automatic_in_use s.living + copy_takes) most_automatic ≡ false →
    K.variable_made x.index (copy_generation (copy_with x z)) acts s ≡ finish (E.Limit W.Automatic) acts s
unfolding K.variable_made looked choose stored ◌>>=◌
passed_means x z s acts many =
    ap (λ q. cond q (Normal tt (with_variable x.index (copy_generation (copy_with x z)) s))
    (finish (E.Limit W.Automatic) acts s)) many

-- ---- the first of them that passes it

pub record EndsThere (w : Surroundings) (code : List Instr) (xs : List Parameter) (ys : List Passing) (p : Point)
    (c : ℕ) (f : Family) : Type 0 where
  pub state : State
  pub means :
      K.parameters_bound (indices_of xs) (all_passed ys) w.acts p.state ≡ finish (E.Limit W.Automatic) w.acts state
  pub over : Over code c f (services_of p) (E.Limit W.Automatic) state

none_left : (used many : ℕ) → nat_le used most_automatic ≡ true → many ≡ 0 →
    nat_le (used + copy_takes * many) most_automatic ≡ false → ⊥
none_left used many few none over = grind (arith, few, none, over, nat_tests)

passes_on :
    (used used' many : ℕ) → used' ≡ copy_takes + used →
    nat_le (used + copy_takes * suc many) most_automatic ≡ false →
    nat_le (used' + copy_takes * many) most_automatic ≡ false
passes_on used used' many same over = grind (arith, same, over, nat_tests)

still_used :
    (used used' : ℕ) → used' ≡ copy_takes + used → nat_le (used + copy_takes) most_automatic ≡ true →
    nat_le used' most_automatic ≡ true
still_used used used' same few = grind (arith, same, few, nat_tests)

pub bound_ends :
    {w : Surroundings} {code : List Instr} {numbers : ℕ → ℕ} (words n list : ℕ) (xs : List Parameter)
    (ys : List Passing) (ψ φ : Layer) (φs : List Layer) (p : Point) (c index : ℕ) (f : Family) →
    Binds w code words n list xs ys ψ φ φs p → nat_le (automatic_in_use p.state.living) most_automatic ≡ true →
    nat_le (automatic_in_use p.state.living + copy_takes * copies_in ys) most_automatic ≡ false →
    (c + size_of (copies_from n xs) ≤ cost code) × (w.acts + 1 < 2 ^ 64) →
    Linked w.links code index (copies_from n xs) →
    ((b : Base) → IsIn w p numbers index b (f b) × KeepsList list b (f b)) → EndsThere w code xs ys p c f
unfolding K.parameters_bound K.parameter_bound give stored ◌>>=◌ ◌>>◌
bound_ends words n list [] [] ψ φ φs p c index f h used over fits l there =
    absurd (none_left (automatic_in_use p.state.living) 0 used refl over)
bound_ends words n list [] (y ∷ ys) ψ φ φs p c index f h used over fits l there =
    absurd (let many = h.many in omega (arith, many))
bound_ends words n list (x ∷ xs) [] ψ φ φs p c index f h used over fits l there =
    absurd (let many = h.many in omega (arith, many))
bound_ends {w} {code} {numbers} words n list (x ∷ xs) (PassesCopy z ∷ ys) ψ φ φs p c index f h used over fits l there =
    by (nat_le (automatic_in_use p.state.living + copy_takes) most_automatic) refl
    (λ few.
    let one = copy_code n x.number in
    let rest = copies_from (suc n) xs in
    let size = size_append one rest in
    let paid = fits.0 in
    let last = words + 6 * length ys in
    let q = copied_at last ψ φ φs (copy_with x z) p in
    let same = copy_used h in
    let r1 = copy_comes c index f (around h) (is_copy h) few (front_of one rest l) there in
    let e = bound_ends words (suc n) list xs ys (grown (copy_made_of ψ (copy_with x z)) ψ)
    (with_waits (name_told last (p.state.serials + 1) x.number 1 φ.waits) φ) φs q (c + size_of one)
    (index + size_of one) (reached r1) (copy_next h)
    (still_used (automatic_in_use p.state.living) (automatic_in_use q.state.living) same few)
    (passes_on (automatic_in_use p.state.living) (automatic_in_use q.state.living) (copies_in ys) same over)
    (omega (arith, paid, size), fits.1) (back_of one rest l) (reached_holds r1) in
    record {
      state = e.state;
      means = ap (λ flow. flow_on w.acts flow (λ u. K.parameters_bound (indices_of xs) (all_passed ys)))
          (copied_means last ψ φ φs x z p w.acts few) ∙ e.means;
      over = over_then r1 e.over;
    })
    (λ many.
    let one = copy_code n x.number in
    let rest = copies_from (suc n) xs in
    let size = size_append one rest in
    let paid = fits.0 in
    record {
      state = p.state;
      means = ap (λ flow. flow_on w.acts flow (λ u. K.parameters_bound (indices_of xs) (all_passed ys)))
          (passed_means x z p.state w.acts many)
          ∙ finish_on (E.Limit W.Automatic) w.acts p.state (λ u. K.parameters_bound (indices_of xs) (all_passed ys));
      over = copy_ends c index f (around h) (is_copy h) many (omega (arith, paid, size), fits.1) (front_of one rest l)
          there;
    })
  where
    by :
        (q : Bool) → nat_le (automatic_in_use p.state.living + copy_takes) most_automatic ≡ q →
        (nat_le (automatic_in_use p.state.living + copy_takes) most_automatic ≡ true →
        EndsThere w code (x ∷ xs) (PassesCopy z ∷ ys) p c f) →
        (nat_le (automatic_in_use p.state.living + copy_takes) most_automatic ≡ false →
        EndsThere w code (x ∷ xs) (PassesCopy z ∷ ys) p c f) → EndsThere w code (x ∷ xs) (PassesCopy z ∷ ys) p c f
    by true e few many = few e
    by false e few many = many e
bound_ends {w} {code} {numbers} words n list (x ∷ xs) (PassesName serial signature ∷ ys) ψ φ φs p c index f h used over
    fits l there =
    let one = copy_code n x.number in
    let rest = copies_from (suc n) xs in
    let size = size_append one rest in
    let paid = fits.0 in
    let r1 = name_comes x serial c index f (around h) h.given.1 (front_of one rest l) there in
    let e = bound_ends words (suc n) list xs ys ψ φ φs (named_as x serial p) (c + size_of one) (index + size_of one)
    (reached r1) (name_next h) used over (omega (arith, paid, size), fits.1) (back_of one rest l) (reached_holds r1) in
    record { state = e.state; means = e.means; over = over_then r1 e.over }
