-- A POINTER variable that is assigned a pointer into an area: its act, its offset, and service 14, which writes the
-- name.
use Rattle.std.proofs.Common.{◌≡◌, ℕ, ◌+◌, ◌≤◌, ◌*◌, ◌^◌, List, [], ◌∷◌, ◌++◌, Option, None, Some, true}
use Rattle.std.proofs.Common.{refl, sym, ap, ◌∙◌, subst, arith}
use Rattle.std.proofs.lemmas.Bool.{le-leb}
use Rattle.std.proofs.lemmas.List.{append_assoc}
use Rattle.std.specs.Prelude.{length, nat_le, ◌&&◌, ◌<◌}
use Rattle.rv_meaning.specs.declared.instr.Instr.TheVariants as I
use Rattle.rv_meaning.specs.Machine.{value}
use Rattle.pli_typing.specs.TypedTree as Y
use Rattle.pli_meaning.specs.BasicValues.{BasicPointer, BasicValue, Name}
use Rattle.pli_meaning.specs.Control.{Label, Meaning, Normal, act, flow_on, give, looked, ◌>>=◌, ◌>>◌}
use Rattle.pli_meaning.specs.Evaluating as V
use Rattle.pli_meaning.specs.Evaluating.{pointer_into}
use Rattle.pli_meaning.specs.Executing as M
use Rattle.pli_meaning.specs.Raising as R
use Rattle.pli_meaning.specs.Raising.{Around, at_line}
use Rattle.pli_meaning.specs.StorageState.{State, standing_for}
use Rattle.pli_meaning.specs.World.{counted}
use Rattle.area_keeper.specs.KeptAreas.{with_part}
use Rattle.area_keeper.proofs.Agreement.{length_with_part}
use Rattle.pli_serving.specs.Answers.{Answer, Done}
use Rattle.pli_serving.specs.Bytes.{name_bytes, offset_word}
use Rattle.pli_serving.specs.Names.{locator_served}
use Rattle.pli_serving.specs.ServiceState.{Services}
use Rattle.pli_coding.specs.Allocating.{act_code}
use Rattle.pli_coding.specs.Assembly.{Plain, size_of}
use Rattle.pli_coding.specs.Environments.{none_taken}
use Rattle.pli_coding.specs.Expressions.{offset_code}
use Rattle.pli_coding.specs.Instructions.{small}
use Rattle.pli_coding.specs.Registers.{a0, a1, a2, a3, a7}
use Rattle.storage_relation.specs.Served.{call}
use Rattle.storage_relation.specs.Telling.{IsName, IsOffset}
use Rattle.storage_relation.proofs.Locators.{pointer_answer}
use Rattle.activation_relation.specs.Frames.{frame_under}
use Rattle.activation_relation.specs.Layers.{Point, now, services_of}
use Rattle.run_steps.specs.Bodies.{Known}
use Rattle.run_steps.proofs.Bodies.{zero_is}
use Rattle.run_steps.specs.Calls.{Calling}
use Rattle.run_steps.proofs.Calls.{call_done, called}
use Rattle.run_steps.specs.Engine.{Base}
use Rattle.run_steps.specs.Items.{At, Linked}
use Rattle.run_steps.proofs.Items.{straight}
use Rattle.run_steps.proofs.Jumps.{back_of, front_of}
use Rattle.run_steps.proofs.Linking.{size_append}
use Rattle.run_steps.specs.Owing.{owing}
use Rattle.run_steps.proofs.Owing.{comes_owing, done_owing, owing_closed}
use Rattle.run_steps.specs.Reach.{Comes, Family, Reach, before, reached}
use Rattle.run_steps.proofs.Reach.{before_closed, comes_on, onward, reach_map, reach_then, reached_holds}
use Rattle.run_steps.proofs.Reaching.{reach_moved}
use Rattle.run_steps.specs.Temporaries.{nothing}
use Rattle.block_runs.specs.Machines.{IsIn, acted}
use Rattle.block_runs.proofs.BlockEntries.{small_is}
use Rattle.block_runs.proofs.CallStatements.{comes_map}
use Rattle.block_runs.proofs.PointActs.{act_comes}
use Rattle.block_runs.proofs.PointGrounds.{StandsIn, call_is, in_known, point_frame, point_ground}
use Rattle.program_runs.specs.Statements.{Block, Does, IsAmong, size_in, statement_aims}
use Rattle.program_runs.proofs.JumpsOut.{jumps_repaid, jumps_since}
use Rattle.program_runs.proofs.Statements.{acted_among, goes_here, statement_closed}
use Rattle.program_runs.proofs.Variables.{own_code, own_comes}
use Rattle.expression_runs.specs.Assignments.{setting_of}
use Rattle.expression_runs.specs.Values.{HasWord, Stretch, behind}
use Rattle.expression_runs.specs.Variables.{Spot, variable_of, whole}
use Rattle.expression_runs.proofs.Words.{frame_of, known_word}
use Rattle.variable_runs.specs.Known.{binding_for, place_of}
use Rattle.area_runs.specs.Allocations.{HasArea}
use Rattle.area_runs.proofs.AllocationMeaning.{pointed_state}
use Rattle.area_runs.proofs.AreaPoints.{area_base, area_place}
use Rattle.area_runs.proofs.BasedCode.{name_at_place}
use Rattle.area_runs.proofs.BasedReads.{laid_out}
use Rattle.area_assignments.proofs.Emptying.{area_stands, names_area}
use Rattle.locator_runs.specs.Pointers.{IsPointer}
use Rattle.locator_runs.proofs.PointerMeaning.{put_is}
use Rattle.locator_runs.proofs.PointerPoints.{PointerAt, name_length, own_base, pointed, pointed_among}
use Rattle.locator_runs.proofs.PointerPoints.{pointed_services}
use Rattle.locator_runs.proofs.PointerPoints.{pointed_stands, pointer_in, pointer_place}
use Rattle.offset_runs.specs.OffsetPointers.{IsPointing, pointing}
use Rattle.offset_runs.specs.Offsets.{Gives, offset_aims}
use Rattle.offset_runs.proofs.PointerCode.{given_code, into_code, pointing_coded}

-- ---- what it means

-- the pointer of an offset in an area
pub into_is :
    (around : Around) (a : Spot) (d : Y.DeclaredVariable) (serial k : ℕ) (s : State) (o : Option ℕ) →
    standing_for s (variable_of a) ≡ Some (binding_for a d serial) →
    ((V.area_meant around (variable_of a)) >>= (λ n. give (pointer_into n o))) k s
    ≡ Normal (pointer_into serial o) s
unfolding V.area_meant R.or_error looked give ◌>>=◌
into_is around a d serial k s o stands =
    ap (λ b. flow_on k (R.or_error around 101 (V.serial_of b) k s) (λ n. give (pointer_into n o))) stands

-- ---- service 14

pub name_fits : (n : ℕ) (o : Option ℕ) → n < 2 ^ 64 → IsOffset o → IsName (pointer_into n o)
name_fits n None few fits = tt
name_fits n (Some o) few fits = (few, omega (arith, fits))

-- what it is given
abbrev given_regs : (word area place : ℕ) → Base → List (ℕ × ℕ)
given_regs word area place b = (17, 14) ∷ (13, 0) ∷ (12, place) ∷ (11, area) ∷ (10, word) ∷ []

given_comes :
    {k : Block} {x a : Spot} {q : Point} {numbers : ℕ → ℕ} {i : ℕ} (is : IsPointer k x) (area : HasArea k a)
    (o : IsAmong k numbers q) (word c : ℕ) (f : Family) (h : frame_of k q) →
    Linked k.call.surroundings.links k.call.code i (given_code (place_of k.environment a) (name_at_place
    k.environment x))
    → ((b : Base) → IsIn k.call.surroundings q numbers i b (f b) × (value (f b).machine a0 ≡ word)) →
    Reach k.call.code c f (services_of q)
    (c + size_of (given_code (place_of k.environment a) (name_at_place k.environment x))) (services_of q)
    (λ b y. At b (i + size_of (given_code (place_of k.environment a) (name_at_place k.environment x)))
    (Known (point_ground k.call.surroundings q h) (services_of q) numbers (λ j. 0)
    (given_regs word (area_place area) (pointer_place is)) b) y)
given_comes {k} {x} {a} {q} {numbers} {i} is area o word c f h l there =
    let w = k.call.surroundings in
    let v = services_of q in
    let g = point_ground w q h in
    let at = frame_under w.parts q.control.layers in
    let from = place_of k.environment a in
    let to = name_at_place k.environment x in
    let first = own_code a1 from in
    let second = own_code a2 to in
    let asks = small a3 0 ∷ small a7 14 ∷ [] in
    let n0 = size_append first (second ++ asks) in
    let n1 = size_append second asks in
    let base = area_base area o in
    let base' = own_base is o in
    let inside = area.known.inside in
    let inside' = is.known.inside in
    let l1 = back_of first (second ++ asks) l in
    let r1 = own_comes {rs = λ b'. (10, word) ∷ []} h c f a1 from (omega (arith, base, inside)) (λ y' u. refl)
    (record { reserved_stay = λ y' u. refl; known_stay = λ b y' u s. s; set = λ y' u. refl })
    (record { reserved_stay = λ y' u. refl; known_stay = λ b y' u s. s; set = λ y' u. refl })
    (record { reserved_stay = λ y' u. refl; known_stay = λ b y' u s. s; set = λ y' u. refl })
    (front_of first (second ++ asks) l) (λ b. known_word k h (there b)) in
    let r2 = own_comes {rs = λ b'. (11, at + from) ∷ (10, word) ∷ []} h (c + size_of first) (reached r1) a2 to
    (omega (arith, base', inside')) (λ y' u. refl)
    (record { reserved_stay = λ y' u. refl; known_stay = λ b y' u s. s; set = λ y' u. refl })
    (record { reserved_stay = λ y' u. refl; known_stay = λ b y' u s. s; set = λ y' u. refl })
    (record { reserved_stay = λ y' u. refl; known_stay = λ b y' u s. s; set = λ y' u. refl })
    (front_of second asks l1) (reached_holds r1) in
    let r3 = straight (c + size_of first + size_of second) (reached r2) v v
    (λ b y'. Known g v numbers (λ j. 0) (given_regs word (area_place area) (pointer_place is)) b y')
    (back_of second asks l1) (omega arith) (λ b. (reached_holds r2 b).pc)
    (λ b. let s = (reached_holds r2 b).holds in record {
      body = record {
        services = s.body.services;
        registers = s.body.registers;
        bytes = s.body.bytes;
        memory = s.body.memory;
      };
      regs = (
        small_is _ 14 (zero_is s.body) (omega arith),
        (
          small_is _ 0 (zero_is s.body) (omega arith),
          (s.regs.0 ∙ ap (λ j. j + to) base', (s.regs.1.0 ∙ ap (λ j. j + from) base, (s.regs.1.1.0, tt))),
        ),
      );
    }) in
    reach_moved (omega (arith, n0, n1)) (omega (arith, n0, n1)) (reach_then r1 (reach_then r2 r3))

-- what it answers
into_answer :
    {k : Block} {x a : Spot} {q : Point} {numbers : ℕ → ℕ} (is : IsPointer k x) (area : HasArea k a)
    (o : IsAmong k numbers q) (u : Option ℕ) (b : Base) (m : List ℕ) → 4 * length k.call.code ≤ 2 ^ 22 → IsOffset u →
    StandsIn k.call.surroundings q b m →
    locator_served (call (now q m)) (offset_word u) (area_place area) (pointer_place is) 0
    ≡ Done (services_of q) (with_part (name_bytes (pointer_into area.known.serial u)) (pointer_place is) m)
    (offset_word u) (area_place area)
into_answer {q = q} is area o u b m small' fits stands =
    let layout = laid_out o small' in
    let start = layout.0 in
    let end = layout.1 in
    let low = is.known.low in
    let inside = is.known.inside in
    let at = pointer_place is in
    let t1 : nat_le q.layout.code_bytes at ≡ true = le-leb _ _ (omega (arith, start, low)) in
    let t2 : nat_le (at + 16) q.layout.end ≡ true = le-leb _ _ (omega (arith, end, inside)) in
    pointer_answer (now q m) stands.storage (area_place area) at area.known.serial u fits
    (names_area area o small' b m stands) (ap (λ z. z && nat_le (at + 16) q.layout.end) t1 ∙ t2)

-- from where the word is in a0 to the point at which the variable holds the name
into_reaches :
    {k : Block} {x a : Spot} {q : Point} {numbers : ℕ → ℕ} {i : ℕ} (is : IsPointer k x) (area : HasArea k a)
    (o : IsAmong k numbers q) (t : PointerAt k x is q) (u : Option ℕ) (c : ℕ) (f : Family) → IsOffset u →
    Linked k.call.surroundings.links k.call.code i (into_code (place_of k.environment a) (name_at_place
    k.environment x))
    → ((b : Base) → IsIn k.call.surroundings q numbers i b (f b) × (value (f b).machine a0 ≡ offset_word u)) →
    Reach k.call.code c f (services_of q)
    (c + size_of (into_code (place_of k.environment a) (name_at_place k.environment x)))
    (services_of (pointed q t.points (pointer_into area.known.serial u)))
    (λ b y. IsIn k.call.surroundings (pointed q t.points (pointer_into area.known.serial u)) numbers
    (i + size_of (into_code (place_of k.environment a) (name_at_place k.environment x))) b y)
into_reaches {k} {x} {a} {q} {numbers} {i} is area o t u c f fits l there =
    let w = k.call.surroundings in
    let code = k.call.code in
    let v = services_of q in
    let h = point_frame o.stands o.image in
    let small' = l.small' in
    let name = pointer_into area.known.serial u in
    let q' = pointed q t.points name in
    let from = place_of k.environment a in
    let to = name_at_place k.environment x in
    let first = own_code a1 from in
    let second = own_code a2 to in
    let asks = small a3 0 ∷ small a7 14 ∷ [] in
    let gives = given_code from to in
    let calls = Plain I.Ecall ∷ [] in
    let whole' = into_code from to in
    let n0 = size_append gives calls in
    let n1 = size_append first (second ++ (small a3 0 ∷ small a7 14 ∷ calls)) in
    let n2 = size_append second (small a3 0 ∷ small a7 14 ∷ calls) in
    let n3 = size_append first (second ++ asks) in
    let n4 = size_append second asks in
    let split : into_code from to ≡ gives ++ calls =
    ap (λ y. first ++ y) (sym (append_assoc second asks calls)) ∙ sym (append_assoc first (second ++ asks) calls) in
    let l' = subst (Linked w.links code i) split l in
    let r1 = given_comes is area o (offset_word u) c f h (front_of gives calls l') there in
    let g = reached r1 in
    let final : Base → List ℕ = λ b. with_part (name_bytes name) (pointer_place is) (g b).machine.memory in
    let answer : Base → Answer = λ b. Done v (final b) (offset_word u) (area_place area) in
    let calling : Calling w.links code (i + size_of gives) g answer = record {
      linked = back_of gives calls l';
      pc = λ b. (reached_holds r1 b).pc;
      answers = λ b.
          let s = (reached_holds r1 b).holds in
          let m = (g b).machine.memory in
          let regs = (g b).machine.registers in
          called code (g b) v 14 (offset_word u) (area_place area) (pointer_place is) 0 (regs 14)
          (λ call' x0 x1 x2 x3 x4. locator_served call' x0 x1 x2 x3) s.body.services s.regs.0 s.regs.1.1.1.1.0
          s.regs.1.1.1.0 s.regs.1.1.0 s.regs.1.0 refl (λ call' y. refl)
          ∙ ap (λ call'. locator_served call' (offset_word u) (area_place area) (pointer_place is) 0)
          (call_is w code q m o.image)
          ∙ into_answer is area o u b m (omega (arith, small')) fits s.body.memory;
    } in
    let inside = is.known.inside in
    let long = name_length name in
    let r2 = call_done (c + size_of gives) g v v final (λ b. offset_word u) (λ b. area_place area)
    (λ b y. Known (point_ground w q' h) v numbers (λ j. 0) nothing b y) (omega arith) calling
    (λ b.
    let s = (reached_holds r1 b).holds in
    let bytes = s.body.bytes in
    record {
      body = record {
        services = refl;
        registers = s.body.registers;
        bytes = length_with_part (name_bytes name) (pointer_place is) (g b).machine.memory
            (omega (arith, inside, bytes, long)) ∙ bytes;
        memory = pointed_stands w t name b (g b).machine.memory (name_fits area.known.serial u area.few fits) o.stands
            s.body.memory;
      };
      regs = tt;
    }) in
    let all = reach_moved {c'' = c + size_of whole'} {i'' = i + size_of whole'} (omega (arith, n1, n2, n3, n4))
    (omega (arith, n1, n2, n3, n4)) (reach_then r1 r2) in
    let same = pointed_services q t.points name in
    subst (λ y. Reach code c f v (c + size_of whole') y (λ b z. IsIn w q' numbers (i + size_of whole') b z)) (sym same)
    (reach_map _ all (λ b y s.
    in_known {t = λ j. 0} {rs = nothing} h o.image.parts
    (record {
      pc = s.pc;
      holds = record {
        body = record {
          services = s.holds.body.services ∙ sym same;
          registers = s.holds.body.registers;
          bytes = s.holds.body.bytes;
          memory = s.holds.body.memory;
        };
        regs = tt;
      };
    })))

-- ---- the statement

abbrev put_in : Block → Spot → (line : ℕ) → BasicValue → Meaning (Unit {0})
put_in k x line v = M.assigned (at_line k.around line) (whole x) v

-- once the offset is there
stored_goes :
    (k : Block) (labels : List Label) (x a : Spot) (line left' : ℕ) (is : IsPointer k x) (area : HasArea k a)
    (acts wanted debt i c' : ℕ) (f' : Family) (v' : Services) (u : Option ℕ) (s : State) (y : Stretch) →
    acts ≤ y.acts → IsOffset u → HasWord k y (offset_word u) c' f' v' s →
    y.wanted + size_of (into_code (place_of k.environment a) (name_at_place k.environment x)) ≤ wanted + debt →
    y.index + size_of (into_code (place_of k.environment a) (name_at_place k.environment x)) ≡ i →
    Linked k.call.surroundings.links k.call.code y.index
    (into_code (place_of k.environment a) (name_at_place k.environment x)) →
    Comes k.call.code c' f' v' (owing k.call.code debt (statement_aims k labels acts i wanted left'))
    (put_in k x line (BasicPointer (pointer_into area.known.serial u)) k.call.surroundings.acts s)
stored_goes k labels x a line left' is area acts wanted debt i c' f' v' u s y since fits q paid end l =
    let w = k.call.surroundings in
    let code = k.call.code in
    let aims = statement_aims k labels acts i wanted left' in
    let p = q.point in
    let more = q.since in
    let name = pointer_into area.known.serial u in
    let around' = at_line k.around line in
    subst (λ z. Comes code c' f' v' (owing code debt aims) (put_in k x line (BasicPointer name) w.acts z)) (sym q.state)
    (onward (owing_closed code debt aims) q.reach
    (λ g at.
    let t = pointer_in x is q.among g (λ b. (at b).0) in
    let r = into_reaches is area q.among t u y.wanted g fits l at in
    subst (λ flow. Comes code y.wanted g (services_of p) (owing code debt aims) flow)
    (sym (put_is around' w.acts name t.points))
    (record {
      to = λ early.
          done_owing (statement_closed k labels acts i wanted left') debt wanted paid r tt
          (pointed_state p.state t.points name)
          (λ g' at'. goes_here acts wanted g' (omega (arith, since, more)) (pointed_among t.points name q.among)
          (λ b. subst (λ j. IsIn w (pointed p t.points name) q.numbers j b (g' b)) end (at' b)));
    })))

pub point_does :
    (k : Block) (labels : List Label) (x : Spot) (source : Y.Offset) (a : Spot) (line index left' need most : ℕ) →
    IsPointing k x source a line index need most → Gives (setting_of k labels line most) need source →
    Does k labels (pointing x source a line) index left'
unfolding M.statement V.stored_value V.pointer ◌>>=◌ ◌>>◌ give
point_does k labels x source a line index left' need most h ev p numbers c wanted f o paid there =
    let w = k.call.surroundings in
    let code = k.call.code in
    let e = k.environment in
    let is = h.target in
    let area = h.area in
    let stmt = pointing x source a line in
    let around' = at_line k.around line in
    let one = act_code line in
    let value' = offset_code e none_taken source in
    let into' = into_code (place_of e a) (name_at_place e x) in
    let coded = pointing_coded e x source a line is.known.declared is.own area.own in
    let n0 = size_append one (value' ++ into') in
    let n1 = size_append value' into' in
    let n2 = ap (λ u. size_of u) coded in
    let l = subst (Linked w.links code index) coded h.statement in
    let l1 = back_of one (value' ++ into') l in
    let debt = size_of value' + size_of into' in
    let acts = p.state.world.acts in
    let aims = statement_aims k labels acts (index + size_in k stmt) wanted left' in
    let owed = owing code debt aims in
    let closed = owing_closed code debt aims in
    let pointer' = V.pointer around' (Y.PointerInto source (variable_of a)) in
    let source' = V.stored_value around' (Y.StoredPointer (Y.PointerInto source (variable_of a))) in
    let put' : BasicValue → Meaning (Unit {0}) = λ v. put_in k x line v in
    let kept' : Name → Meaning BasicValue = λ u. give (BasicPointer u) in
    let into'' : Option ℕ → Meaning Name =
    λ u. (V.area_meant around' (variable_of a)) >>= (λ n. give (pointer_into n u)) in
    let next' : Unit {0} → Meaning (Unit {0}) = λ u. source' >>= put' in
    let all = h.paid in
    let goal' = before code (before code (before code owed w.acts put') w.acts kept') w.acts into'' in
    comes_owing debt (M.statement k.around stmt w.acts p.state)
    (comes_on w.acts (act counted w.acts p.state) next'
    (act_comes (before_closed w.acts next' closed) line (c + debt) 0 f (o.stands, o.image)
    (h.act.line_fits, h.act.acts, omega (arith, paid, n0, n1, n2)) (front_of one (value' ++ into') l) there
    (λ g less at.
    let p' = acted line p in
    let o' = acted_among line o less in
    let y = behind p' numbers 0 0 (index + size_of one) value' in
    let flow = V.offset around' source w.acts p'.state in
    comes_on w.acts (source' w.acts p'.state) put'
    (comes_on w.acts (pointer' w.acts p'.state) kept'
    (comes_on w.acts flow into''
    (comes_map (offset_aims k labels y) goal' refl flow
    (λ c' f' v' u s q.
    subst (Comes code c' f' v' (before code (before code owed w.acts put') w.acts kept'))
    (sym (ap (into'' u w.acts) q.1.state
    ∙ into_is around' a area.declared area.known.serial w.acts q.1.point.state u (area_stands area q.1.among)
    ∙ ap (Normal (pointer_into area.known.serial u)) (sym q.1.state)))
    (record {
      to = λ early. record {
        to = λ early'.
            stored_goes k labels x a line left' is area acts wanted debt (index + size_in k stmt) c' f' v' u s y
            (omega arith) q.0 q.1 (omega arith) (omega (arith, n0, n1, n2)) (back_of value' into' l1);
      };
    }))
    (λ c' f' v' height label s q.
    λ i0 f0 v0 from. jumps_repaid debt from (jumps_since (omega arith) q))
    (λ c' f' v' r s q. absurd q)
    (ev p' numbers 0 0 (index + size_of one) g o' refl (let room = h.registers in omega (arith, room), h.held)
    (front_of value' into' l1) (omega (arith, all, n0, n1, n2)) at)))))))
