-- What stands before the instruction that calls: the value goes into the list, and the frame of the static parent comes
-- into a0.
use Rattle.std.proofs.Common.{◌≡◌, ℕ, ◌+◌, ◌-◌, ◌*◌, ◌^◌, ◌<◌, ◌≤◌, List, [], ◌∷◌, ◌++◌, Bool, true, false, Option}
use Rattle.std.proofs.Common.{None, sym, ap, ◌∙◌, subst, arith}
use Rattle.std.proofs.lemmas.Int.{ints}
use Rattle.std.specs.Prelude.{negsuc, ◌==◌}
use Rattle.rv_meaning.specs.declared.instr.Instr.{Instr}
use Rattle.rv_meaning.specs.Machine.{value}
use Rattle.rv_meaning.specs.Memory.{load, store}
use Rattle.rv_meaning.specs.Words.{sum, word}
use Rattle.rv_meaning.proofs.MemoryLaws.{length-store}
use Rattle.pli_coding.specs.Assembly.{Code, size_of}
use Rattle.pli_coding.specs.Frames.{display}
use Rattle.pli_coding.specs.Registers.{a0, a1}
use Rattle.storage_relation.specs.Served.{Holds}
use Rattle.activation_relation.specs.Chains.{frame_at}
use Rattle.activation_relation.specs.FrameLaws.{with_waits}
use Rattle.activation_relation.specs.Frames.{FramesStand, frame_under, upper_top}
use Rattle.activation_relation.specs.Layers.{Layer, Point, now, services_of}
use Rattle.activation_relation.specs.Points.{Stands, Surroundings}
use Rattle.run_steps.specs.Bodies.{Known, PlaceFrom}
use Rattle.run_steps.proofs.Bodies.{at_place, frame_is, zero_is}
use Rattle.run_steps.specs.Engine.{Base}
use Rattle.run_steps.specs.Items.{Linked}
use Rattle.run_steps.proofs.Items.{straight}
use Rattle.run_steps.proofs.Jumps.{back_of, front_of}
use Rattle.run_steps.proofs.Linking.{size_append}
use Rattle.run_steps.specs.Reach.{Family, Reach, reached}
use Rattle.run_steps.proofs.Reach.{reach_map, reach_then, reached_holds}
use Rattle.run_steps.specs.Reaching.{Reaches}
use Rattle.run_steps.specs.Temporaries.{nothing}
use Rattle.block_runs.specs.Beginnings.{Beginning}
use Rattle.block_runs.specs.Machines.{IsImage, IsIn}
use Rattle.block_runs.proofs.BlockEntries.{small_is}
use Rattle.block_runs.proofs.Places.{IsFrame}
use Rattle.block_runs.proofs.PointGrounds.{StandsIn, in_known, known_in, point_frame, point_ground}
use Rattle.program_runs.specs.Statements.{Block, IsAmong, IsBegun}
use Rattle.expression_runs.proofs.Words.{valued}
use Rattle.argument_runs.specs.ListBeginnings.{IsListing}
use Rattle.argument_runs.specs.Lists.{given_waits, layered, list_under, value_given, with_list}
use Rattle.argument_runs.proofs.CopyCalls.{frames_forgotten}
use Rattle.argument_runs.proofs.GivenLists.{copy_place, list_place, stands_given, with_list_stands}
use Rattle.nested_calls.specs.Nested.{IsNested, given_code, parent_at}
use Rattle.nested_calls.proofs.GivenCode.{given}
use Rattle.nested_calls.proofs.NestedCalls.{parent_inside, parent_reached}

-- ---- the value

value_comes :
    (w : Surroundings) (code : List Instr) (p : Point) (φ : Layer) (φs : List Layer) (numbers : ℕ → ℕ)
    (given' credits index : ℕ) (f : Family) → Stands w p × IsImage w code p → p.control.layers ≡ φ ∷ φs →
    (6 ≤ φ.words) × (given' < 2 ^ 32) → Linked w.links code index value_given →
    ((b : Base) → IsIn w p numbers index b (f b) × (value (f b).machine a0 ≡ given')) →
    Reach code credits f (services_of p) (credits + size_of value_given)
    (services_of (with_list (given_waits given') φ φs p))
    (λ b y. IsIn w (with_list (given_waits given') φ φs p) numbers (index + size_of value_given) b y)
value_comes w code p φ φs numbers given' credits index f known newest few l there =
    let q = with_list (given_waits given') φ φs p in
    let v = services_of p in
    let v' = services_of q in
    let h = point_frame known.0 known.1 in
    let same : frame_under w.parts p.control.layers ≡ φ.at = ap (λ ls. frame_under w.parts ls) newest in
    let h' = subst IsFrame same h in
    let g = point_ground w q h' in
    let small' = l.small' in
    let high = h'.high in
    let r = straight {xs = value_given} credits f v v'
    (λ b y. Known g v' numbers (λ n. 0) nothing b y) l (omega arith) (λ b. (there b).0.at.pc)
    (λ b.
    let o = (known_in {t = λ n. 0} {rs = valued given'} h (there b).0 ((there b).1, tt)).holds in
    let x = (f b).machine.registers in
    let frame = frame_is o.body ∙ ap (λ n. b.at + n) same in
    let stored' = stands_given w p φ φs given' b (f b).machine.memory (known.0, h') newest few o.body.bytes
    o.body.memory in
    let one = small_is (x 0) 1 (zero_is o.body) (omega arith) in (
      at_place b (list_place φ.at h') (sum (x 8) (word (negsuc 23))) (ap (λ u. sum u (word (negsuc 23))) frame),
      omega (arith, small', high),
      (
        at_place b (copy_place φ.at h') (sum (x 8) (word (negsuc 3))) (ap (λ u. sum u (word (negsuc 3))) frame),
        omega (arith, small', high),
        record {
          body = record {
            services = o.body.services ∙ ap (λ ls. services_of (layered ls p)) newest;
            registers = o.body.registers ∙ ap (λ n. 0 ∷ (b.at + upper_top w.parts p.control.layers) ∷ (b.at + n)
                ∷ numbers 0 ∷ numbers 1 ∷ numbers 2 ∷ numbers 3 ∷ numbers 4 ∷ numbers 5 ∷ numbers 6 ∷ []) same
                ∙ ap (λ ls. 0 ∷ (b.at + upper_top w.parts ls) ∷ (b.at + φ.at)
                ∷ numbers 0 ∷ numbers 1 ∷ numbers 2 ∷ numbers 3 ∷ numbers 4 ∷ numbers 5 ∷ numbers 6 ∷ []) newest;
            bytes = length-store 4 (store 4 (f b).machine.memory (list_under φ.at) (x 10)) (φ.at - 4) (sum (x 0) 1)
                ∙ length-store 4 (f b).machine.memory (list_under φ.at) (x 10) ∙ o.body.bytes;
            memory = subst (λ n. StandsIn w q b
                (store 4 (store 4 (f b).machine.memory (list_under φ.at) n) (φ.at - 4) (sum (x 0) 1))) (sym o.regs.0)
                (subst (λ n. StandsIn w q b
                (store 4 (store 4 (f b).machine.memory (list_under φ.at) given') (φ.at - 4) n)) (sym one) stored');
          };
          regs = tt;
        },
      ),
    )) in
    reach_map _ r (λ b y o. in_known h' known.1.parts o)

-- ---- the frame of the static parent

-- what is told of the caller's words is no part of what stands without
stands_without :
    {w : Surroundings} {p : Point} {φ : Layer} {φs : List Layer} {waits : ℕ → Option ℕ} {b : Base} {m : List ℕ} →
    p.control.layers ≡ φ ∷ φs → with_waits (λ n. None) φ ≡ φ → StandsIn w (with_list waits φ φs p) b m →
    StandsIn w p b m
stands_without {w} {p} {φ} {φs} {waits} {b} {m} newest none h =
    record {
      storage = same_now h.storage;
      frames = subst (FramesStand w.parts b.at m p.state.activations) (sym newest)
          (subst (λ ψ. FramesStand w.parts b.at m p.state.activations (ψ ∷ φs)) none
          (frames_forgotten w.parts b.at m p.state.activations (with_waits waits φ) φs h.frames));
    }
  where
    same_now : Holds (now (with_list waits φ φs p) m) → Holds (now p m)
    same_now s =
        record {
          keeps = s.keeps;
          heap = record { at = s.heap.at; capacity = s.heap.capacity };
          lives = record { falling = s.lives.falling; numbered = s.lives.numbered; extents = s.lives.extents };
          stored = s.stored;
          distinct = s.distinct;
        }

still_reached :
    (w : Surroundings) (p : Point) (φ : Layer) (φs : List Layer) (waits : ℕ → Option ℕ) (own : Bool) (level base : ℕ)
    (h : IsFrame (frame_under w.parts p.control.layers)) (h' : IsFrame φ.at) → p.control.layers ≡ φ ∷ φs →
    with_waits (λ n. None) φ ≡ φ → Reaches own level (point_ground w p h) base →
    Reaches own level (point_ground w (with_list waits φ φs p) h') base
still_reached w p φ φs waits true level base h h' newest none r =
    sym (ap (λ ls. frame_under w.parts ls) newest) ∙ r
still_reached w p φ φs waits false level base h h' newest none r =
    let same = ap (λ ls. frame_under w.parts ls) newest in (
      subst (λ n. PlaceFrom n (display level) (n + (144 + 4 * level))) same r.0,
      λ t b m stands.
          subst (λ n. load 4 m (n + (144 + 4 * level)) ≡ b.at + base) same
          (r.1 t b m
          (stands_without {w = w} {p = p} {φ = φ} {φs = φs} {waits = waits} {b = b} {m = m} newest none stands)),
    )

-- ---- all of it

abbrev pub giving_code : (own : Bool) → (level : ℕ) → Code
giving_code own level = value_given ++ given_code own 6 level

listed_is : (b : Base) (at x : ℕ) → IsFrame at → x ≡ sum (b.at + at) (word (negsuc 23)) → x ≡ b.at + list_under at
listed_is b at x h e =
    let room = h.room in
    let high = h.high in
    let v = b.valid.1 in
    omega (arith, ints, e, room, high, v)

pub giving_comes :
    (k : Block) (level : ℕ) {numbers : ℕ → ℕ} {p : Point} (φ : Layer) (φs : List Layer) (x : Beginning)
    (given' credits index : ℕ) (f : Family) → IsNested k → IsBegun k → IsAmong k numbers p →
    level ≤ k.environment.level → p.control.layers ≡ φ ∷ φs → with_waits (λ n. None) φ ≡ φ →
    (6 ≤ φ.words) × (given' < 2 ^ 32) → (x.texts ≡ 0) × (x.entry.parent ≡ parent_at k level) →
    Linked k.call.surroundings.links k.call.code index (giving_code (level == k.environment.level) level) →
    ((b : Base) → IsIn k.call.surroundings p numbers index b (f b) × (value (f b).machine a0 ≡ given')) →
    Reach k.call.code credits f (services_of p)
    (credits + size_of (giving_code (level == k.environment.level) level))
    (services_of (with_list (given_waits given') φ φs p))
    (λ b y. IsIn k.call.surroundings (with_list (given_waits given') φ φs p) numbers
    (index + size_of (giving_code (level == k.environment.level) level)) b y
    × IsListing (with_list (given_waits given') φ φs p) x (list_under φ.at) b y)
giving_comes k level {numbers} {p} φ φs x given' credits index f nest begun o within newest none few is l there =
    let w = k.call.surroundings in
    let code = k.call.code in
    let q = with_list (given_waits given') φ φs p in
    let own = level == k.environment.level in
    let base = frame_at k.first.control.layers (parent_at k level) in
    let rest = given_code own 6 level in
    let n = size_append value_given rest in
    let known = with_list_stands w code p φ φs (given_waits given') (o.stands, o.image) newest in
    let h = point_frame o.stands o.image in
    let h' = point_frame known.0 known.1 in
    let r1 = value_comes w code p φ φs numbers given' credits index f (o.stands, o.image) newest few
    (front_of value_given rest l) there in
    let r2 = given own 6 level base x (index + size_of value_given) (credits + size_of value_given) (reached r1) known.0
    known.1 (omega arith, is.0)
    (still_reached w p φ φs (given_waits given') own level base h h' newest none
    (parent_reached level nest begun o within)) (
      parent_inside level nest o within,
      ap (λ ls. frame_at ls (parent_at k level)) (sym o.later.layers)
          ∙ ap (λ ls. frame_at ls (parent_at k level)) newest
          ∙ ap (λ j. frame_at (φ ∷ φs) j) (sym is.1),
    )
    (back_of value_given rest l) (reached_holds r1) in
    subst
    (λ j. Reach code credits f (services_of p) j (services_of q)
    (λ b y. IsIn w q numbers (index + size_of (giving_code own level)) b y × IsListing q x (list_under φ.at) b y))
    (omega (arith, n))
    (reach_map _ (reach_then r1 r2)
    (λ b y u. (
      subst (λ j. IsIn w q numbers j b y) (omega (arith, n)) u.0,
      record { calling = u.1; address = listed_is b φ.at (value y.machine a1) h' u.2 },
    )))
