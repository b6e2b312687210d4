-- An assignment to such a parameter: its act, its expression, and the store where service 8 finds its data.
use Rattle.std.proofs.Common.{◌≡◌, ℕ, ◌+◌, ◌%◌, ◌≤◌, List, [], ◌∷◌, ◌++◌, true, refl, sym, ap, ◌∙◌}
use Rattle.std.proofs.Common.{subst, arith}
use Rattle.std.specs.Prelude.{ℤ, pos, ◌==◌}
use Rattle.rv_meaning.specs.Machine.{value}
use Rattle.rv_meaning.specs.Memory.{store}
use Rattle.rv_meaning.specs.Words.{sum, word}
use Rattle.rv_meaning.proofs.MemoryLaws.{length-store}
use Rattle.pli_typing.specs.TypedTree as Y
use Rattle.pli_meaning.specs.BasicValues.{BasicNumber, BasicValue}
use Rattle.pli_meaning.specs.Control.{Label, Meaning, Normal, act, flow_on, give, stored, ◌>>=◌, ◌>>◌}
use Rattle.pli_meaning.specs.Evaluating as V
use Rattle.pli_meaning.specs.Executing as M
use Rattle.pli_meaning.specs.Numbers.{checked, is_of_precision}
use Rattle.pli_meaning.specs.Placing as P
use Rattle.pli_meaning.specs.Raising as R
use Rattle.pli_meaning.specs.Raising.{Around, at_line}
use Rattle.pli_meaning.specs.StorageState.{State}
use Rattle.pli_meaning.specs.World.{counted}
use Rattle.pli_serving.specs.ServiceState.{Services}
use Rattle.pli_coding.specs.Allocating.{act_code}
use Rattle.pli_coding.specs.Assembly.{size_of}
use Rattle.pli_coding.specs.Environments.{fetch, save}
use Rattle.pli_coding.specs.Expressions.{number_code}
use Rattle.pli_coding.specs.Registers.{a0}
use Rattle.pli_coding.specs.Storing.{word_stored}
use Rattle.activation_relation.specs.Layers.{Point, services_of}
use Rattle.run_steps.specs.Bodies.{Known}
use Rattle.run_steps.specs.Engine.{Base}
use Rattle.run_steps.specs.Items.{At, Linked}
use Rattle.run_steps.proofs.Items.{straight}
use Rattle.run_steps.proofs.Jumps.{back_of, front_of, linked_at}
use Rattle.run_steps.proofs.Linking.{size_append}
use Rattle.run_steps.proofs.Numbers.{word_small}
use Rattle.run_steps.specs.Owing.{owing}
use Rattle.run_steps.proofs.Owing.{comes_owing, done_owing, owing_closed}
use Rattle.run_steps.specs.Reach.{Comes, Family, Reach, before, reached}
use Rattle.run_steps.proofs.Reach.{before_closed, comes_on, onward, reach_map, reach_then, reached_holds}
use Rattle.run_steps.proofs.Reaching.{reach_moved}
use Rattle.run_steps.specs.Temporaries.{nothing}
use Rattle.block_runs.specs.Machines.{IsIn, acted}
use Rattle.block_runs.proofs.CallStatements.{comes_map}
use Rattle.block_runs.proofs.PointActs.{act_comes}
use Rattle.block_runs.proofs.PointGrounds.{StandsIn, in_known, point_frame, point_ground}
use Rattle.program_runs.specs.Statements.{Block, DoesWith, IsAmong, set_aside, size_with, statement_aims}
use Rattle.program_runs.proofs.JumpsOut.{jumps_repaid, jumps_since}
use Rattle.program_runs.proofs.Statements.{acted_among, goes_here, statement_closed}
use Rattle.expression_runs.specs.Assignments.{setting_around}
use Rattle.expression_runs.specs.Laws as L
use Rattle.expression_runs.specs.Values.{HasRegisters, HasWord, Setting, Stretch, behind, number_aims}
use Rattle.expression_runs.specs.Variables.{Spot}
use Rattle.expression_runs.proofs.AssignedPoints.{Assigning, assigned_among, behind_assigned, services_same}
use Rattle.expression_runs.proofs.AssignedPoints.{stands_assigned}
use Rattle.expression_runs.proofs.Assignments.{fit_is}
use Rattle.expression_runs.proofs.Saving.{fetched_reach, held_after, held_among, held_is_given, saved_reach}
use Rattle.expression_runs.proofs.VariableMeaning.{assigned_state}
use Rattle.expression_runs.proofs.VariablePoints.{first_base}
use Rattle.expression_runs.proofs.Words.{frame_of, known_word}
use Rattle.argument_runs.specs.Parameters.{parameter}
use Rattle.argument_runs.proofs.ParameterCode as W
use Rattle.argument_runs.proofs.ParameterCode.{designated_is}
use Rattle.argument_runs.proofs.Parameters.{there_at, word_there}
use Rattle.reference_runs.specs.ParameterAssignments.{assignment}
use Rattle.parameter_runs.specs.Around.{IsAssignmentAround, IsParameterAround}
use Rattle.parameter_runs.proofs.AroundCode.{found_code, put_code, put_coded, value_stored}
use Rattle.parameter_runs.proofs.Reading.{CopyAt, copy_at, found_comes, found_regs}

-- ---- the store

abbrev assigning : {k : Block} {n : Spot} {is : IsParameterAround k n} {p : Point} → CopyAt k n is p → (z : ℤ) →
    is_of_precision 31 z ≡ true → Assigning p
assigning n z wide =
    record {
      serial = n.holds.serial;
      values = n.holds.values;
      living = n.holds.living;
      lives = n.holds.lives;
      generation = n.holds.generation;
      z = z;
      wide = wide;
    }

-- a number in a0 goes where the parameter's data stand
value_goes :
    {k : Block} {x : Spot} {is : IsParameterAround k x} {numbers : ℕ → ℕ} {p : Point} {i : ℕ} (o : IsAmong k numbers p)
    (n : CopyAt k x is p) (h : frame_of k p) (c : ℕ) (f : Family) (z : ℤ) (wide : is_of_precision 31 z ≡ true) →
    k.first.places.at is.entry.serial % 4 ≡ 0 → Linked k.call.surroundings.links k.call.code i value_stored →
    ((b : Base) → At b i (Known (point_ground k.call.surroundings p h) (services_of p) numbers (λ j. 0)
    (λ b'. (10, word z) ∷ found_regs is b') b) (f b)) →
    Reach k.call.code c f (services_of p) (c + size_of value_stored) (services_of p)
    (λ b y. At b (i + size_of value_stored)
    (Known (point_ground k.call.surroundings (behind_assigned p (assigning n z wide)) h) (services_of p) numbers
    (λ j. 0) nothing b) y)
value_goes {k} {x} {is} {numbers} {p} o n h c f z wide even l there =
    let w = k.call.surroundings in
    let v = services_of p in
    let a = assigning n z wide in
    let q = behind_assigned p a in
    let place = k.first.places.at is.entry.serial in
    let low = is.low in
    let inside = is.inside in
    let small' = l.small' in
    let here : p.places.at n.holds.serial + 0 + 0 ≡ place = (let e = n.here in omega (arith, e)) in
    straight c f v v (λ b y. Known (point_ground w q h) v numbers (λ j. 0) nothing b y) l (omega arith)
    (λ b. (there b).pc)
    (λ b.
    let o' = (there b).holds in
    let y = (f b).machine.registers in
    let m = (f b).machine.memory in
    let new : store 4 m (p.places.at n.holds.serial + 0 + 0) (word z) ≡ store 4 m place (y 10) =
    ap (λ j. store 4 m j (word z)) here ∙ ap (store 4 m place) (sym o'.regs.0) in (
      word_there b (sum (y 28) (word (pos 0))) place (there_at b (y 28) place o'.regs.1.0 inside) even
          (omega (arith, inside)),
      omega (arith, small', low),
      record {
        body = record {
          services = o'.body.services;
          registers = o'.body.registers;
          bytes = length-store 4 m place (y 10) ∙ o'.body.bytes;
          memory = subst (StandsIn w q b) new (stands_assigned w p a b m o.stands o'.body.memory);
        };
        regs = tt;
      },
    ))

-- the value waits while the parameter is found: from there to the point behind
put_reaches :
    (k' : Setting) {x : Spot} (is : IsParameterAround k'.block x) {numbers : ℕ → ℕ} {p : Point} {index : ℕ} →
    HasRegisters k' 0 1 → IsAmong k'.block numbers p → (c : ℕ) (f : Family) (z : ℤ)
    (wide : is_of_precision 31 z ≡ true) (n : CopyAt k'.block x is p) →
    Linked k'.block.call.surroundings.links k'.block.call.code index (put_code k'.words (x.level ==
    k'.block.environment.level) x.level is.entry.place) →
    ((b : Base) → IsIn k'.block.call.surroundings p numbers index b (f b) × (value (f b).machine a0 ≡ word z)) →
    Reach k'.block.call.code c f (services_of p) (c + size_of (put_code k'.words (x.level ==
    k'.block.environment.level) x.level is.entry.place))
    (services_of (behind_assigned p (assigning n z wide)))
    (λ b y. IsIn k'.block.call.surroundings (behind_assigned p (assigning n z wide)) (held_after numbers 0 (word z))
    (index + size_of (put_code k'.words (x.level == k'.block.environment.level) x.level is.entry.place)) b y)
put_reaches k' {x} is {numbers} {p} {index} registers o c f z wide n l there =
    let k = k'.block in
    let w = k.call.surroundings in
    let h = point_frame o.stands o.image in
    let a = assigning n z wide in
    let q = behind_assigned p a in
    let small' = word_small z wide in
    let o' = held_among k' 0 1 (word z) registers (omega arith) small' o in
    let finds = found_code (x.level == k.environment.level) x.level is.entry.place in
    let t = set_aside k'.words in
    let saves = save a0 t in
    let back = fetch a0 t in
    let l1 = back_of saves (finds ++ (back ++ value_stored)) l in
    let l2 = back_of finds (back ++ value_stored) l1 in
    let n1 = size_append finds (back ++ value_stored) in
    let even = (n.tells (f first_base).machine.memory (there first_base).0.at.storage).1 in
    let r1 = saved_reach k' 0 0 h registers c f (word z) small' (front_of saves (finds ++ (back ++ value_stored)) l)
    (λ b. known_word k h (there b)) in
    let r2 = found_comes is o' n h (c + size_of saves) (reached r1) (front_of finds (back ++ value_stored) l1)
    (λ b. in_known h o.image.parts (reached_holds r1 b)) in
    let r3 = fetched_reach k' 0 0 h registers (c + size_of saves + size_of finds) (reached r2) a0 (word z) small'
    (held_is_given numbers 0 (word z))
    (record { reserved_stay = λ y u. refl; known_stay = λ b y u s. s; set = λ y u. refl })
    (record { reserved_stay = λ y u. refl; known_stay = λ b y u s. s; set = λ y u. refl })
    (front_of back value_stored l2) (reached_holds r2) in
    let r4 = value_goes o' n h (c + size_of saves + size_of finds + size_of back) (reached r3) z wide even
    (back_of back value_stored l2) (reached_holds r3) in
    let all = reach_moved {c'' = c + size_of (put_code k'.words (x.level == k'.block.environment.level) x.level
    is.entry.place)}
    {i'' = index + size_of (put_code k'.words (x.level == k'.block.environment.level) x.level is.entry.place)}
    (omega (arith, n1)) (omega (arith, n1)) (reach_then r1 (reach_then r2 (reach_then r3 r4))) in
    subst (λ v. Reach k.call.code c f (services_of p) (c + size_of (put_code k'.words (x.level ==
    k'.block.environment.level) x.level is.entry.place)) v
    (λ b y. IsIn w q (held_after numbers 0 (word z)) (index + size_of (put_code k'.words (x.level ==
    k'.block.environment.level) x.level is.entry.place)) b y))
    (sym (services_same p a))
    (reach_map _ all (λ b y s.
    in_known {t = λ j. 0} {rs = nothing} h o.image.parts
    (record {
      pc = s.pc;
      holds = record {
        body = record {
          services = s.holds.body.services ∙ sym (services_same p a);
          registers = s.holds.body.registers;
          bytes = s.holds.body.bytes;
          memory = s.holds.body.memory;
        };
        regs = tt;
      };
    })))

-- ---- what it means

assigned_is :
    (around : Around) {s : State} {x : Spot} (k : ℕ) (z : ℤ) (h : W.Holds s x) →
    M.assigned around (parameter x) (BasicNumber z) k s ≡ Normal tt (assigned_state s h.serial h.values z)
unfolding M.assigned P.element_stored stored ◌>>=◌ give
assigned_is around {s} k z h =
    ap (λ q. flow_on k q (λ d. P.element_stored d (BasicNumber z))) (designated_is around k h)

abbrev put_in : Block → Spot → (line : ℕ) → BasicValue → Meaning (Unit {0})
put_in k x line v = M.assigned (at_line k.around line) (parameter x) v

-- ---- the statement

stored_goes :
    (words : ℕ) (k : Block) (labels : List Label) (x : Spot) (source : Y.Number) (line index left' need most : ℕ)
    (h : IsAssignmentAround words k x source line index need most) (acts wanted debt i : ℕ) (c' : ℕ) (f' : Family)
    (v' : Services) (z : ℤ) (s : State) (y : Stretch) → acts ≤ y.acts → is_of_precision 31 z ≡ true →
    HasWord k y (word z) c' f' v' s → y.wanted + size_of (put_code words (x.level == k.environment.level) x.level
    h.number.entry.place) ≤ wanted + debt →
    y.index + size_of (put_code words (x.level == k.environment.level) x.level h.number.entry.place) ≡ i →
    Linked k.call.surroundings.links k.call.code y.index (put_code words (x.level == k.environment.level) x.level
    h.number.entry.place) →
    Comes k.call.code c' f' v' (owing k.call.code debt (statement_aims k labels acts i wanted left'))
    (put_in k x line (BasicNumber z) k.call.surroundings.acts s)
stored_goes words k labels x source line index left' need most h acts wanted debt i c' f' v' z s y since wide q paid
    end l =
    let w = k.call.surroundings in
    let code = k.call.code in
    let aims = statement_aims k labels acts i wanted left' in
    let p = q.point in
    let more = q.since in
    let around' = at_line k.around line in
    let some = h.some in
    let small' = word_small z wide in
    let o' = held_among (setting_around words k labels line most) {numbers = q.numbers} 0 1 (word z) (some, h.held)
    (omega arith) small' q.among in
    subst (λ u. Comes code c' f' v' (owing code debt aims) (put_in k x line (BasicNumber z) w.acts u)) (sym q.state)
    (onward (owing_closed code debt aims) q.reach
    (λ g at.
    let n = copy_at x h.number q.among g (λ b. (at b).0) in
    let a = assigning n z wide in
    let r = put_reaches (setting_around words k labels line most) h.number (some, h.held) q.among y.wanted g z wide n l
    at in
    subst (λ flow. Comes code y.wanted g (services_of p) (owing code debt aims) flow)
    (sym (assigned_is around' w.acts z n.holds))
    (record {
      to = λ early.
          done_owing (statement_closed k labels acts i wanted left') debt wanted paid r tt (behind_assigned p a).state
          (λ g' at'. goes_here acts wanted g' (omega (arith, since, more)) (assigned_among a o')
          (λ b. subst (λ j. IsIn w (behind_assigned p a) (held_after q.numbers 0 (word z)) j b (g' b)) end (at' b)));
    })))

pub around_assigned :
    (words : ℕ) (k : Block) (labels : List Label) (x : Spot) (source : Y.Number) (line index left' need most : ℕ) →
    IsAssignmentAround words k x source line index need most →
    L.Does (setting_around words k labels line most) need source →
    DoesWith words k labels (assignment x source line) index left'
unfolding M.statement V.stored_value ◌>>=◌ ◌>>◌
around_assigned words k labels x source line index left' need most h ev p numbers c wanted f o paid there =
    let w = k.call.surroundings in
    let code = k.call.code in
    let e = k.environment in
    let stmt = assignment x source line in
    let around' = at_line k.around line in
    let one = act_code line in
    let value' = number_code e (set_aside words) source in
    let store' = word_stored e (set_aside words) (parameter x) in
    let puts = put_code words (x.level == k.environment.level) x.level h.number.entry.place in
    let coded = put_coded words e x h.number.entry.place h.number.declared h.number.numbered_so in
    let n0 = size_append one ((value' ++ []) ++ store') in
    let n1 = size_append (value' ++ []) store' in
    let n2 = size_append value' [] in
    let n3 = ap (λ u. size_of u) coded in
    let l = h.statement in
    let l1 = back_of one ((value' ++ []) ++ store') l in
    let lv = front_of value' [] (front_of (value' ++ []) store' l1) in
    let ls = subst (Linked w.links code (index + size_of one + size_of (value' ++ []))) coded
    (back_of (value' ++ []) store' l1) in
    let debt = size_of value' + size_of store' in
    let acts = p.state.world.acts in
    let aims = statement_aims k labels acts (index + size_with words k stmt) wanted left' in
    let owed = owing code debt aims in
    let closed = owing_closed code debt aims in
    let source' = V.stored_value around' (Y.StoredNumber 31 source) in
    let next' : Unit {0} → Meaning (Unit {0}) = λ u. source' >>= (λ v. put_in k x line v) in
    let fit : ℤ → Meaning BasicValue =
    λ z. (R.value_of around' (checked 31 z)) >>= (λ z'. give (BasicNumber z')) in
    let all = h.paid in
    comes_owing debt (M.statement k.around stmt w.acts p.state)
    (comes_on w.acts (act counted w.acts p.state) next'
    (act_comes (before_closed w.acts next' closed) line (c + debt) 0 f (o.stands, o.image)
    (h.act.line_fits, h.act.acts, omega (arith, paid, n0, n1, n2)) (front_of one ((value' ++ []) ++ store') l) there
    (λ g less at.
    let p' = acted line p in
    let o' = acted_among line o less in
    let flow = V.number around' source w.acts p'.state in
    let y = behind p' numbers 0 0 (index + size_of one) value' in
    comes_on w.acts (source' w.acts p'.state) (λ v. put_in k x line v)
    (comes_on w.acts flow fit
    (comes_map (number_aims k labels y)
    (before code (before code owed w.acts (λ v. put_in k x line v)) w.acts fit) refl flow
    (λ c' f' v' z s q.
    subst (Comes code c' f' v' (before code owed w.acts (λ v. put_in k x line v)))
    (sym (fit_is around' z w.acts s q.0))
    (record {
      to = λ early. stored_goes words k labels x source line index left' need most h acts wanted debt
          (index + size_with words k stmt) c' f' v' z s y (omega arith) q.0 q.1 (omega (arith, n2, n3)) (omega (
            arith,
            n0,
            n1,
            n2,
            n3,
          ))
          (linked_at (index + size_of one + size_of value') puts (omega (arith, n2)) ls);
    }))
    (λ c' f' v' height label s q.
    λ i0 f0 v0 from. jumps_repaid debt from (jumps_since (omega arith) q))
    (λ c' f' v' r s q. absurd q)
    (ev p' numbers 0 0 (index + size_of one) g o' refl (let room = h.registers in omega (arith, room), h.held) lv
    (omega (arith, all, n0, n1, n2)) at))))))
