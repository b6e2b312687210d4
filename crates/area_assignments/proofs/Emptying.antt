-- EMPTY does what it means: its act, and service 13.
use Rattle.std.proofs.Common.{◌≡◌, ◌≢◌, ℕ, ◌+◌, ◌*◌, ◌^◌, ◌<◌, ◌≤◌, length, List, [], ◌∷◌, ◌++◌, Some, refl, sym, ap}
use Rattle.std.proofs.Common.{◌∙◌, subst, arith}
use Rattle.rv_meaning.specs.declared.instr.Instr.TheVariants as I
use Rattle.pli_meaning.specs.Contents.{Placed}
use Rattle.pli_meaning.specs.Control.{Label, Meaning, act, ◌>>◌}
use Rattle.pli_meaning.specs.Executing as M
use Rattle.pli_meaning.specs.Placing as P
use Rattle.pli_meaning.specs.Raising.{at_line}
use Rattle.pli_meaning.specs.StorageState.{ancestor, binding_in, newest_height, standing_for}
use Rattle.pli_meaning.specs.World.{counted}
use Rattle.pli_serving.specs.Answers.{Answer, Done}
use Rattle.pli_serving.specs.AreaServices as A
use Rattle.pli_coding.specs.Allocating.{act_code}
use Rattle.pli_coding.specs.Assembly.{Plain, size_of}
use Rattle.pli_coding.specs.Instructions.{small}
use Rattle.pli_coding.specs.Registers.{a0, a7}
use Rattle.storage_relation.specs.Served.{NamesArea, call}
use Rattle.activation_relation.specs.Layers.{Point, now, services_of}
use Rattle.run_steps.specs.Bodies.{Known}
use Rattle.run_steps.proofs.Bodies.{zero_is}
use Rattle.run_steps.specs.Calls.{Calling}
use Rattle.run_steps.proofs.Calls.{call_done, called}
use Rattle.run_steps.specs.Engine.{Base}
use Rattle.run_steps.specs.Items.{At, Linked}
use Rattle.run_steps.proofs.Items.{straight}
use Rattle.run_steps.proofs.Jumps.{back_of, first_of, front_of}
use Rattle.run_steps.proofs.Linking.{size_append}
use Rattle.run_steps.specs.Owing.{owing}
use Rattle.run_steps.proofs.Owing.{comes_owing, done_owing, owing_closed}
use Rattle.run_steps.specs.Reach.{Comes, Family, Reach, cost, reached}
use Rattle.run_steps.proofs.Reach.{before_closed, comes_on, reach_map, reach_then, reached_holds}
use Rattle.run_steps.proofs.Reaching.{reach_moved}
use Rattle.run_steps.specs.Temporaries.{nothing}
use Rattle.block_runs.specs.Machines.{AreIn, IsIn, acted}
use Rattle.block_runs.proofs.BlockEntries.{small_is}
use Rattle.block_runs.proofs.PointActs.{act_comes}
use Rattle.block_runs.proofs.PointGrounds.{StandsIn, call_is, in_known, known_in, point_frame, point_ground}
use Rattle.program_runs.specs.Statements.{Block, Does, IsAmong, size_in, statement_aims}
use Rattle.program_runs.proofs.Statements.{acted_among, goes_here, statement_closed}
use Rattle.program_runs.proofs.Variables.{own_code, own_comes}
use Rattle.expression_runs.specs.Variables.{Spot, variable_of}
use Rattle.variable_runs.specs.Known.{binding_for, place_of}
use Rattle.area_runs.specs.Allocations.{HasArea}
use Rattle.area_runs.proofs.AreaPoints.{AreaAt, area_base, area_lives, area_named, area_place}
use Rattle.area_runs.proofs.BasedReads.{laid_out}
use Rattle.area_assignments.specs.Emptying.{IsEmptying, emptying}
use Rattle.area_assignments.proofs.Answers.{Turned, emptied_there}
use Rattle.area_assignments.proofs.AreaCode.{asked, emptied_by, emptying_coded}
use Rattle.area_assignments.proofs.Meaning.{emptied_is}
use Rattle.area_assignments.proofs.Points.{turned_among, turned_point, turned_services, turned_stands}

-- what the area stands for
pub area_stands :
    {k : Block} {numbers : ℕ → ℕ} {p : Point} {x : Spot} (is : HasArea k x) → IsAmong k numbers p →
    standing_for p.state (variable_of x) ≡ Some (binding_for x is.declared is.known.serial)
area_stands {x = x} is o =
    ap (λ xs. binding_in (ancestor xs (newest_height xs) x.level) x.index) o.later.activations ∙ is.known.binding

-- its name in memory
abbrev pub names_area :
    {k : Block} {numbers : ℕ → ℕ} {p : Point} {x : Spot} (is : HasArea k x) (o : IsAmong k numbers p) →
    4 * length k.call.code ≤ 2 ^ 22 → (b : Base) (m : List ℕ) → StandsIn k.call.surroundings p b m →
    NamesArea (now p m) (area_place is) is.known.serial
names_area {x = x} is o small' b m stands =
    let at = area_lives x is o in
    record {
      some = at.some;
      name = area_named is o b.at m stands.frames (laid_out o small');
      area = record { capacity = is.capacity; placed = at.living.placed };
      lives = at.area;
    }

abbrev pub emptied_point : {k : Block} {x : Spot} → HasArea k x → Point → Point
emptied_point is p = turned_point is.known.serial (λ placed. []) p

emptied_reaches :
    {k : Block} {x : Spot} {q : Point} {numbers : ℕ → ℕ} {i : ℕ} (is : HasArea k x) (o : IsAmong k numbers q) (c : ℕ)
    (f : Family) → Linked k.call.surroundings.links k.call.code i (emptied_by (place_of k.environment x)) →
    AreIn k.call.surroundings q numbers i f →
    Reach k.call.code c f (services_of q) (c + size_of (emptied_by (place_of k.environment x)))
    (services_of (emptied_point is q))
    (λ b y. IsIn k.call.surroundings (emptied_point is q) numbers (i + size_of (emptied_by (place_of k.environment x)))
    b y)
emptied_reaches {k} {x} {q} {numbers} {i} is o c f l there =
    let w = k.call.surroundings in
    let code = k.call.code in
    let h = point_frame o.stands o.image in
    let g = point_ground w q h in
    let v = services_of q in
    let n = is.known.serial in
    let u = emptied_point is q in
    let small' = l.small' in
    let place = place_of k.environment x in
    let own = own_code a0 place in
    let asks = asked 13 in
    let n0 = size_append own asks in
    let base = area_base is o in
    let inside = is.known.inside in
    let at = area_lives x is o in
    let l1 = back_of own asks l in
    let r1 = own_comes {rs = nothing} h c f a0 place (omega (arith, base, inside)) (λ y z. refl)
    (record { reserved_stay = λ y z. refl; known_stay = λ b y z s. s; set = λ y z. refl })
    (record { reserved_stay = λ y z. refl; known_stay = λ b y z s. s; set = λ y z. refl })
    (record { reserved_stay = λ y z. refl; known_stay = λ b y z s. s; set = λ y z. refl }) (front_of own asks l)
    (λ b. known_in {t = λ j. 0} {rs = nothing} h (there b) tt) in
    let r2 = straight (c + size_of own) (reached r1) v v
    (λ b y. Known g v numbers (λ j. 0) (λ b'. (17, 13) ∷ (10, area_place is) ∷ []) b y)
    (front_of (small a7 13 ∷ []) (Plain I.Ecall ∷ []) l1) (omega arith) (λ b. (reached_holds r1 b).pc)
    (λ b. let s = (reached_holds r1 b).holds in record {
      body = record {
        services = s.body.services;
        registers = s.body.registers;
        bytes = s.body.bytes;
        memory = s.body.memory;
      };
      regs = (small_is _ 13 (zero_is s.body) (omega arith), (s.regs.0 ∙ ap (λ j. j + place) base, tt));
    }) in
    let r = reached r2 in
    let turned : (b : Base) → Turned (now q (r b).machine.memory) n is.capacity (λ placed. [])
    (λ m. Done v m (area_place is) ((r b).machine.registers 11))
    (A.empty_served (call (now q (r b).machine.memory)) (area_place is) ((r b).machine.registers 11)) =
    λ b. emptied_there (now q (r b).machine.memory) (reached_holds r2 b).holds.body.memory.storage (area_place is)
    ((r b).machine.registers 11) n
    (names_area is o (omega (arith, small')) b (r b).machine.memory (reached_holds r2 b).holds.body.memory) in
    let calling : Calling w.links code (i + size_of own + 1) r
    (λ b. Done v (turned b).memory (area_place is) ((r b).machine.registers 11)) = record {
      linked = back_of (small a7 13 ∷ []) (Plain I.Ecall ∷ []) l1;
      pc = λ b. (reached_holds r2 b).pc;
      answers = λ b.
          let s = (reached_holds r2 b).holds in
          let y = (r b).machine.registers in
          called code (r b) v 13 (area_place is) (y 11) (y 12) (y 13) (y 14)
          (λ call' x0 x1 x2 x3 x4. A.empty_served call' x0 x1) s.body.services s.regs.0 s.regs.1.0 refl refl refl refl
          (λ call' z. refl)
          ∙ ap (λ call'. A.empty_served call' (area_place is) (y 11)) (call_is w code q (r b).machine.memory o.image)
          ∙ (turned b).answered;
    } in
    let r3 = call_done (c + size_of own + 1) r v v (λ b. (turned b).memory) (λ b. area_place is)
    (λ b. (r b).machine.registers 11) (λ b y. Known (point_ground w u h) v numbers (λ j. 0) nothing b y) (omega arith)
    calling
    (λ b.
    let s = (reached_holds r2 b).holds in
    let many = (turned b).beside.as_many in
    record {
      body = record {
        services = refl;
        registers = s.body.registers;
        bytes = many ∙ s.body.bytes;
        memory = turned_stands w (record { capacity = is.capacity; placed = at.living.placed }) b at.some at.area
            (turned b) o.stands s.body.memory;
      };
      regs = tt;
    }) in
    let all = reach_moved {c'' = c + size_of (emptied_by place)} {i'' = i + size_of (emptied_by place)}
    (omega (arith, n0)) (omega (arith, n0)) (reach_then r1 (reach_then r2 r3)) in
    subst (λ s. Reach code c f v (c + size_of (emptied_by place)) s
    (λ b y. IsIn w u numbers (i + size_of (emptied_by place)) b y)) (sym (turned_services n (λ placed. []) q))
    (reach_map _ all (λ b y s.
    in_known {t = λ j. 0} {rs = nothing} h o.image.parts
    (record {
      pc = s.pc;
      holds = record {
        body = record {
          services = s.holds.body.services ∙ sym (turned_services n (λ placed. []) q);
          registers = s.holds.body.registers;
          bytes = s.holds.body.bytes;
          memory = s.holds.body.memory;
        };
        regs = tt;
      };
    })))

pub empty_does :
    (k : Block) (labels : List Label) (x : Spot) (line index left' : ℕ) → IsEmptying k x line index →
    Does k labels (emptying x line) index left'
unfolding M.statement ◌>>◌
empty_does k labels x line index left' h q numbers c wanted f o paid there =
    let w = k.call.surroundings in
    let code = k.call.code in
    let stmt = emptying x line in
    let around' = at_line k.around line in
    let one = act_code line in
    let rest = emptied_by (place_of k.environment x) in
    let coded = emptying_coded k.environment x line h.area.own in
    let n0 = size_append one rest in
    let n1 = ap (λ u. size_of u) coded in
    let l = subst (Linked w.links code index) coded h.statement in
    let debt = size_of rest in
    let acts = q.state.world.acts in
    let i = index + size_in k stmt in
    let aims = statement_aims k labels acts i wanted left' in
    let closed = owing_closed code debt aims in
    let next' : Unit {0} → Meaning (Unit {0}) = λ u. P.area_emptied around' (variable_of x) in
    comes_owing debt (M.statement k.around stmt w.acts q.state)
    (comes_on w.acts (act counted w.acts q.state) next'
    (act_comes (before_closed w.acts next' closed) line (c + debt) 0 f (o.stands, o.image)
    (h.act.line_fits, h.act.acts, omega (arith, paid, n0, n1)) (front_of one rest l) there
    (λ g less at'.
    let q' = acted line q in
    let o' = acted_among line o less in
    let area = area_lives x h.area o' in
    let serial = h.area.known.serial in
    let r = emptied_reaches h.area o' 0 g (back_of one rest l) at' in
    subst (λ flow. Comes code 0 g (services_of q') (owing code debt aims) flow)
    (sym (emptied_is around' x h.area.declared serial w.acts q'.state area.some (area_stands h.area o')))
    (record {
      to = λ early. done_owing (statement_closed k labels acts i wanted left') debt wanted (omega arith) r tt
          (emptied_point h.area q').state
          (λ g' at''. goes_here acts wanted g' (omega arith) (turned_among serial (λ placed. []) o')
          (λ b. subst (λ y. IsIn w (emptied_point h.area q') numbers y b (g' b)) (omega (arith, n0, n1)) (at'' b)));
    }))))
