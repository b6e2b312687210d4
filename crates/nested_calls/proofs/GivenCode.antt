-- What stands before the instruction that calls: the frame of the static parent comes into a0.
use Rattle.std.proofs.Common.{◌≡◌, ℕ, ◌+◌, ◌*◌, ◌^◌, ◌<◌, List, [], ◌∷◌, ◌++◌, Bool, true, false, refl, sym, ap, ◌∙◌}
use Rattle.std.proofs.Common.{arith}
use Rattle.std.specs.Prelude.{pos}
use Rattle.rv_meaning.specs.declared.instr.Instr.{Instr}
use Rattle.rv_meaning.specs.Machine.{memory_size, value}
use Rattle.rv_meaning.specs.Words.{word, sum}
use Rattle.pli_coding.specs.Assembly.{size_of}
use Rattle.pli_coding.specs.Frames.{display, words_place}
use Rattle.pli_coding.specs.Instructions.{load_word, move, number, plus}
use Rattle.pli_coding.specs.Registers.{a0, a1, a2, frame_register}
use Rattle.run_steps.specs.Bodies.{Known}
use Rattle.run_steps.proofs.Bodies.{constant_piece, frame_is, load_piece, plus_piece}
use Rattle.run_steps.specs.Engine.{Base}
use Rattle.run_steps.specs.Items.{At, Linked}
use Rattle.run_steps.proofs.Items.{straight}
use Rattle.run_steps.proofs.Jumps.{back_of, front_of}
use Rattle.run_steps.proofs.Linking.{size_append}
use Rattle.run_steps.proofs.Numbers.{below_small}
use Rattle.run_steps.specs.Reach.{Family, Reach, reached}
use Rattle.run_steps.proofs.Reach.{reach_map, reach_then, reached_holds}
use Rattle.run_steps.specs.Reaching.{Reaches}
use Rattle.run_steps.proofs.Reaching.{reach_moved}
use Rattle.run_steps.specs.Temporaries.{nothing}
use Rattle.activation_relation.specs.Chains.{frame_at}
use Rattle.activation_relation.specs.Frames.{frame_under}
use Rattle.activation_relation.specs.Layers.{Point, services_of}
use Rattle.activation_relation.specs.Points.{Stands, Surroundings}
use Rattle.block_runs.specs.Beginnings.{Beginning, IsCalling}
use Rattle.block_runs.specs.Machines.{AreIn, IsImage, IsIn}
use Rattle.block_runs.proofs.Places.{IsFrame}
use Rattle.block_runs.proofs.PointGrounds.{in_known, known_in, point_frame, point_ground}
use Rattle.nested_calls.specs.Nested.{given_code, parent_code}

-- what is known of registers there: the frame of the static parent, that no text is given, and where the list stands
abbrev calling_regs : (base : ℕ) → (list : Base → ℕ) → Base → List (ℕ × ℕ)
calling_regs base list b = (10, b.at + base) ∷ (12, 0) ∷ (11, list b) ∷ []

moved : (b : Base) (at x : ℕ) → at < memory_size → x ≡ b.at + at → sum x (word (pos 0)) ≡ b.at + at
moved b at x room e = let v = b.valid.1 in omega (arith, e, room, v)

parent_given :
    (own : Bool) (level base : ℕ) (list : Base → ℕ) {w : Surroundings} {code : List Instr} {p : Point}
    {numbers : ℕ → ℕ} {i : ℕ} (c : ℕ) (f : Family) (h : IsFrame (frame_under w.parts p.control.layers)) →
    Reaches own level (point_ground w p h) base → base < memory_size → Linked w.links code i (parent_code own level) →
    ((b : Base) →
    At b i (Known (point_ground w p h) (services_of p) numbers (λ n. 0) (λ b'. (12, 0) ∷ (11, list b') ∷ []) b) (f b)) →
    Reach code c f (services_of p) (c + size_of (parent_code own level)) (services_of p)
    (λ b y. At b (i + size_of (parent_code own level))
    (Known (point_ground w p h) (services_of p) numbers (λ n. 0) (calling_regs base list) b) y)
parent_given true level base list {w} {p = p} {numbers = numbers} c f h reaches room l there =
    let v = services_of p in
    let at = frame_under w.parts p.control.layers in
    straight c f v v
    (λ b y. Known (point_ground w p h) v numbers (λ n. 0) (calling_regs base list) b y)
    l (omega arith) (λ b. (there b).pc)
    (λ b. let o = (there b).holds in record {
      body = record {
        services = o.body.services;
        registers = o.body.registers;
        bytes = o.body.bytes;
        memory = o.body.memory;
      };
      regs = (
        moved b base ((f b).machine.registers 8) room (frame_is o.body ∙ ap (λ n. b.at + n) reaches),
        (o.regs.0, (o.regs.1.0, tt)),
      );
    })
parent_given false level base list {w} {p = p} {numbers = numbers} c f h reaches room l there =
    let v = services_of p in
    let at = frame_under w.parts p.control.layers in
    let g = point_ground w p h in
    let first = load_word a0 frame_register (display level) in
    let last = move a0 a0 ∷ [] in
    let n = size_append first last in
    let r1 = load_piece c f a0 (display level) (at + (144 + 4 * level)) (λ b. b.at + base) reaches.0
    (λ b m k. reaches.1 (λ n. 0) b m k)
    (record { reserved_stay = λ y u. refl; known_stay = λ b y u k. k; set = λ y u. refl })
    (record { reserved_stay = λ y u. refl; known_stay = λ b y u k. k; set = λ y u. refl })
    (front_of first last l) there in
    let r2 = straight (c + size_of first) (reached r1) v v
    (λ b y. Known g v numbers (λ n. 0) (calling_regs base list) b y)
    (back_of first last l) (omega arith) (λ b. (reached_holds r1 b).pc)
    (λ b. let o = (reached_holds r1 b).holds in record {
      body = record {
        services = o.body.services;
        registers = o.body.registers;
        bytes = o.body.bytes;
        memory = o.body.memory;
      };
      regs = (moved b base ((reached r1 b).machine.registers 10) room o.regs.0, (o.regs.1.0, (o.regs.1.1.0, tt)));
    }) in
    reach_moved (omega (arith, n)) (omega (arith, n)) (reach_then r1 r2)

pub given :
    (own : Bool) (words level base : ℕ) {w : Surroundings} {code : List Instr} {p : Point} {numbers : ℕ → ℕ}
    (x : Beginning) (i c : ℕ) (f : Family) (stands : Stands w p) (image : IsImage w code p) →
    (words < 2 ^ 20) × (x.texts ≡ 0) → Reaches own level (point_ground w p (point_frame stands image)) base →
    (base < memory_size) × (base ≡ frame_at p.control.layers x.entry.parent) →
    Linked w.links code i (given_code own words level) → AreIn w p numbers i f →
    Reach code c f (services_of p) (c + size_of (given_code own words level)) (services_of p)
    (λ b y. IsIn w p numbers (i + size_of (given_code own words level)) b y × IsCalling p x b y
    × (value y.machine a1 ≡ sum (b.at + frame_under w.parts p.control.layers) (word (words_place words 0))))
given own words level base {w} {p = p} {numbers = numbers} x i c f stands image few reaches is l there =
    let h = point_frame stands image in
    let at = frame_under w.parts p.control.layers in
    let room = h.room in
    let z = words_place words 0 in
    let less = few.0 in
    let first = plus a1 frame_register z in
    let second = number a2 0 in
    let last = parent_code own level in
    let l1 = back_of first (second ++ last) l in
    let n0 = size_append first (second ++ last) in
    let n1 = size_append second last in
    let r1 = plus_piece {t = λ n. 0} {rs = nothing} c f a1 frame_register z (λ b. b.at + at)
    (λ b. sum (b.at + at) (word z)) (below_small (4 * (words + 0)) (omega (arith, less)))
    (λ b. let v' = b.valid.1 in omega (arith, v', room)) (λ y u. refl) (λ b y o. frame_is o.body) (λ b. refl)
    (record { reserved_stay = λ y u. refl; known_stay = λ b y u o. o; set = λ y u. refl })
    (record { reserved_stay = λ y u. refl; known_stay = λ b y u o. o; set = λ y u. refl })
    (front_of first (second ++ last) l) (λ b. known_in h (there b) tt) in
    let r2 = constant_piece (c + size_of first) (reached r1) a2 (pos 0) (omega arith)
    (record { reserved_stay = λ y u. refl; known_stay = λ b y u o. o; set = λ y u. refl })
    (front_of second last l1) (reached_holds r1) in
    let r3 = parent_given own level base (λ b. sum (b.at + at) (word z)) (c + size_of first + size_of second)
    (reached r2) h reaches is.0
    (back_of second last l1)
    (λ b. let o = reached_holds r2 b in
    record {
      pc = o.pc;
      holds = record { body = o.holds.body; regs = (o.holds.regs.0 ∙ refl, (o.holds.regs.1.0, tt)) };
    }) in
    reach_map _ (reach_moved (omega (arith, n0, n1)) (omega (arith, n0, n1)) (reach_then r1 (reach_then r2 r3)))
    (λ b y o. (
      in_known h image.parts o,
      record {
        parent = λ some. o.holds.regs.0 ∙ ap (λ n. b.at + n) is.1;
        texts = o.holds.regs.1.0 ∙ sym few.1;
      },
      o.holds.regs.1.1.0,
    ))
