-- A parameter's place in the list, and the number of its signature, come into registers by way of a frame.
use Rattle.std.proofs.Common.{◌≡◌, ℕ, ◌+◌, ◌*◌, ◌^◌, ◌<◌, List, [], ◌∷◌, ◌++◌, Bool, true, false, refl, ap, ◌∙◌}
use Rattle.std.proofs.Common.{arith}
use Rattle.std.proofs.lemmas.Int.{ints}
use Rattle.std.specs.Prelude.{pos}
use Rattle.rv_meaning.specs.declared.instr.ImmediateOp.TheVariants as Imm
use Rattle.rv_meaning.specs.declared.instr.Instr.{Instr}
use Rattle.rv_meaning.specs.declared.instr.Instr.TheVariants as I
use Rattle.rv_meaning.specs.declared.instr.LoadKind.TheVariants as Load
use Rattle.rv_meaning.specs.declared.instr.Register.{Register}
use Rattle.rv_meaning.specs.Memory.{load}
use Rattle.rv_meaning.specs.Words.{sum, word}
use Rattle.pli_coding.specs.Assembly.{size_of}
use Rattle.pli_coding.specs.Frames.{argument_at, display, list_offset, list_place}
use Rattle.pli_coding.specs.Instructions.{is_immediate, load_word, plus}
use Rattle.pli_coding.specs.Registers.{a0, frame_register}
use Rattle.activation_relation.specs.CodeStores.{most_levels}
use Rattle.activation_relation.specs.Frames.{frame_under}
use Rattle.activation_relation.specs.Layers.{Point, services_of}
use Rattle.activation_relation.specs.Points.{Surroundings}
use Rattle.run_steps.specs.Bodies.{Free, IsNear, Known, with'}
use Rattle.run_steps.proofs.Bodies.{displaced_by, load_piece, lose_known, set_known}
use Rattle.run_steps.proofs.Increments.{load_own}
use Rattle.run_steps.specs.Engine.{Base}
use Rattle.run_steps.specs.Items.{At, Linked}
use Rattle.run_steps.proofs.Jumps.{back_of, front_of}
use Rattle.run_steps.proofs.Linking.{size_append}
use Rattle.run_steps.proofs.Numbers.{above_small}
use Rattle.run_steps.specs.Reach.{Family, Reach, reached}
use Rattle.run_steps.proofs.Reach.{reach_then, reached_holds}
use Rattle.run_steps.proofs.Reaching.{reach_moved}
use Rattle.run_steps.specs.Reaching.{Reaches}
use Rattle.run_steps.specs.Temporaries.{nothing}
use Rattle.block_runs.proofs.Places.{IsFrame, inside_memory, word_in}
use Rattle.block_runs.proofs.PointGrounds.{StandsIn, point_ground}
use Rattle.argument_runs.specs.Parameters.{most_parameters}
use Rattle.parameter_runs.specs.Around.{Entry}
use Rattle.parameter_runs.proofs.AroundCode.{list_by, sign_by}
use Rattle.parameter_runs.proofs.Lists.{IsThere, Lying, part_of}

-- ---- where the list is found

-- from a point, by way of the frame of a level
pub record IsFound (w : Surroundings) (p : Point) (h : IsFrame (frame_under w.parts p.control.layers)) (q : Bool)
    (level base : ℕ) (r : Entry) : Type 0 where
  pub reaches : Reaches q level (point_ground w p h) base
  pub lies : Lying base r
  pub there : (b : Base) (m : List ℕ) → StandsIn w p b m → IsThere base level r b.at m
  pub few : level < most_levels
  pub near : r.place < most_parameters

-- ---- its place

offset_sum : (at n : ℕ) → at + n < 2 ^ 24 → sum at (word (pos n)) ≡ at + n
offset_sum at n few = omega (arith, ints, few)

plus_comes :
    {w : Surroundings} {code : List Instr} {p : Point} {numbers : ℕ → ℕ} {i : ℕ} (base place c : ℕ) (f : Family)
    (h : IsFrame (frame_under w.parts p.control.layers)) → base + place < 2 ^ 24 →
    Linked w.links code i (plus a0 a0 (pos place)) →
    ((b : Base) → At b i (Known (point_ground w p h) (services_of p) numbers (λ n. 0) (λ b'. (10, base) ∷ []) b) (f b))
    →
    Reach code c f (services_of p) (c + size_of (plus a0 a0 (pos place))) (services_of p)
    (λ b y. At b (i + size_of (plus a0 a0 (pos place))) (Known (point_ground w p h) (services_of p) numbers (λ n. 0)
    (λ b'. (10, base + place) ∷ []) b) y)
plus_comes {w} {p = p} {numbers = numbers} base place c f h few l there =
    let g = point_ground w p h in
    let v = services_of p in
    displaced_by (is_immediate (pos place)) c f (λ q d. I.Immediate Imm.Add a0 q d) a0 (pos place) (λ b. base)
    (Known g v numbers (λ n'. 0) (λ b'. (10, base) ∷ [])) (Known g v numbers (λ n'. 0) (λ b'. (10, base + place) ∷ []))
    (above_small place (omega (arith, few))) (λ b. omega (arith, few)) (λ y u. refl)
    (λ b. (there b).holds.regs.0) (omega arith)
    (record {
      does = λ b j y q d o e.
          set_known y 10 (sum (y.machine.registers q.index) (word d)) _ (λ b'. base + place)
          (record { reserved_stay = λ y u. refl; known_stay = λ b y u o. o; set = λ y u. refl })
          (e ∙ offset_sum base place few) (record { body = o.body; regs = tt });
      lost = λ b y u j o. lose_known y 31 u j
          (record { reserved_stay = λ y u. refl; known_stay = λ b y u o. o; set = λ y u. refl }) o;
    })
    l there

pub list_comes :
    (q : Bool) {w : Surroundings} {code : List Instr} {p : Point} {numbers : ℕ → ℕ} {i level base : ℕ} {r : Entry}
    (h : IsFrame (frame_under w.parts p.control.layers)) (s : IsFound w p h q level base r) (c : ℕ) (f : Family) →
    Linked w.links code i (list_by q level r.place) →
    ((b : Base) → At b i (Known (point_ground w p h) (services_of p) numbers (λ n. 0) nothing b) (f b)) →
    Reach code c f (services_of p) (c + size_of (list_by q level r.place)) (services_of p)
    (λ b y. At b (i + size_of (list_by q level r.place)) (Known (point_ground w p h) (services_of p) numbers
    (λ n. 0) (λ b'. (10, part_of r) ∷ []) b) y)
list_comes true {w} {p = p} {level = level} {base = base} {r = r} h s c f l there =
    let at = frame_under w.parts p.control.layers in
    let first = load_word a0 frame_register list_offset in
    let second = plus a0 a0 (argument_at r.place 0) in
    let n = size_append first second in
    let room = s.lies.list.room in
    let near = s.near in
    let r1 = load_piece c f a0 list_offset (at + 44) (λ b. r.at) (word_in at 44 h refl (omega arith))
    (λ b m o. ap (λ j. load 4 m (j + 44)) s.reaches ∙ (s.there b m o).offset)
    (record { reserved_stay = λ y u. refl; known_stay = λ b y u o. o; set = λ y u. refl })
    (record { reserved_stay = λ y u. refl; known_stay = λ b y u o. o; set = λ y u. refl })
    (front_of first second l) there in
    reach_moved (omega (arith, n)) (omega (arith, n))
    (reach_then r1 (plus_comes r.at (24 * r.place + 4 * 0) (c + size_of first) (reached r1) h
    (omega (arith, room, near)) (back_of first second l) (reached_holds r1)))
list_comes false {w} {p = p} {level = level} {base = base} {r = r} h s c f l there =
    let at = frame_under w.parts p.control.layers in
    let zero' = load_word a0 frame_register (display level) in
    let first = load_word a0 a0 list_offset in
    let second = plus a0 a0 (argument_at r.place 0) in
    let n0 = size_append zero' (first ++ second) in
    let n = size_append first second in
    let l1 = back_of zero' (first ++ second) l in
    let room = s.lies.list.room in
    let near = s.near in
    let r0 = load_piece c f a0 (display level) (at + (144 + 4 * level)) (λ b. b.at + base) s.reaches.0
    (λ b m o. s.reaches.1 (λ n. 0) b m o)
    (record { reserved_stay = λ y u. refl; known_stay = λ b y u o. o; set = λ y u. refl })
    (record { reserved_stay = λ y u. refl; known_stay = λ b y u o. o; set = λ y u. refl })
    (front_of zero' (first ++ second) l) there in
    let r1 = load_own (c + size_of zero') (reached r0) a0 Load.Word list_offset base (base + 44) (λ b. r.at)
    (word_in base 44 s.lies.frame_is refl (omega arith)) (inside_memory base s.lies.frame_is) (λ y u. refl)
    (λ b m o. (s.there b m o).offset)
    (record { reserved_stay = λ y u. refl; known_stay = λ b y u o. o; set = λ y u. refl })
    (record { reserved_stay = λ y u. refl; known_stay = λ b y u o. o; set = λ y u. refl })
    (front_of first second l1) (reached_holds r0) in
    reach_moved (omega (arith, n0, n)) (omega (arith, n0, n))
    (reach_then r0 (reach_then r1 (plus_comes r.at (24 * r.place + 4 * 0) (c + size_of zero' + size_of first)
    (reached r1) h (omega (arith, room, near)) (back_of first second l1) (reached_holds r1))))

-- ---- the number of its signature

-- a register that may be written, beside those that are known
pub record Takes (r : Register) (rs : Base → List (ℕ × ℕ)) : Type 0 where
  pub near : IsNear r.index
  pub free : Free rs r.index
  pub far : Free rs 31
  pub still : (n : ℕ) → Free (with' r.index (λ b. b.at + n) rs) 31

pub sign_comes :
    (q : Bool) (u : Register) {rs : Base → List (ℕ × ℕ)} {w : Surroundings} {code : List Instr} {p : Point}
    {numbers : ℕ → ℕ} {i level base : ℕ} {r : Entry} (h : IsFrame (frame_under w.parts p.control.layers))
    (s : IsFound w p h q level base r) (t : Takes u rs) (c : ℕ) (f : Family) → Linked w.links code i (sign_by q u level
    r.place) →
    ((b : Base) → At b i (Known (point_ground w p h) (services_of p) numbers (λ n. 0) rs b) (f b)) →
    Reach code c f (services_of p) (c + size_of (sign_by q u level r.place)) (services_of p)
    (λ b y. At b (i + size_of (sign_by q u level r.place)) (Known (point_ground w p h) (services_of p) numbers
    (λ n. 0) (with' u.index (λ b'. r.signature) rs) b) y)
sign_comes true u {rs} {w} {p = p} {level = level} {base = base} {r = r} h s t c f l there =
    let at = frame_under w.parts p.control.layers in
    let first = load_word u frame_register (pos (list_place level)) in
    let second = load_word u u (argument_at r.place 4) in
    let n = size_append first second in
    let few = s.few in
    let near = s.near in
    let r1 = load_piece {rs = rs} c f u (pos (list_place level)) (at + list_place level) (λ b. b.at + r.at)
    (word_in at (list_place level) h (omega arith) (omega (arith, few)))
    (λ b m o. ap (λ j. load 4 m (j + list_place level)) s.reaches ∙ (s.there b m o).address)
    t.free t.far (front_of first second l) there in
    let r2 = load_own {rs = rs} (c + size_of first) (reached r1) u Load.Word (argument_at r.place 4) r.at
    (r.at + (24 * r.place + 4 * 4)) (λ b. r.signature)
    (word_in r.at (24 * r.place + 4 * 4) s.lies.list (omega arith) (omega (arith, near)))
    (inside_memory r.at s.lies.list) t.near (λ b m o. (s.there b m o).number) t.free (t.still r.at)
    (back_of first second l) (reached_holds r1) in
    reach_moved (omega (arith, n)) (omega (arith, n)) (reach_then r1 r2)
sign_comes false u {rs} {w} {p = p} {level = level} {base = base} {r = r} h s t c f l there =
    let at = frame_under w.parts p.control.layers in
    let zero' = load_word u frame_register (display level) in
    let first = load_word u u (pos (list_place level)) in
    let second = load_word u u (argument_at r.place 4) in
    let n0 = size_append zero' (first ++ second) in
    let n = size_append first second in
    let few = s.few in
    let near = s.near in
    let l1 = back_of zero' (first ++ second) l in
    let r0 = load_piece {rs = rs} c f u (display level) (at + (144 + 4 * level)) (λ b. b.at + base) s.reaches.0
    (λ b m o. s.reaches.1 (λ n. 0) b m o) t.free t.far (front_of zero' (first ++ second) l) there in
    let r1 = load_own {rs = rs} (c + size_of zero') (reached r0) u Load.Word (pos (list_place level)) base
    (base + list_place level) (λ b. b.at + r.at)
    (word_in base (list_place level) s.lies.frame_is (omega arith) (omega (arith, few)))
    (inside_memory base s.lies.frame_is) t.near (λ b m o. (s.there b m o).address) t.free (t.still base)
    (front_of first second l1) (reached_holds r0) in
    let r2 = load_own {rs = rs} (c + size_of zero' + size_of first) (reached r1) u Load.Word (argument_at r.place 4)
    r.at (r.at + (24 * r.place + 4 * 4)) (λ b. r.signature)
    (word_in r.at (24 * r.place + 4 * 4) s.lies.list (omega arith) (omega (arith, near)))
    (inside_memory r.at s.lies.list) t.near (λ b m o. (s.there b m o).number) t.free (t.still r.at)
    (back_of first second l1) (reached_holds r1) in
    reach_moved (omega (arith, n0, n)) (omega (arith, n0, n)) (reach_then r0 (reach_then r1 r2))
