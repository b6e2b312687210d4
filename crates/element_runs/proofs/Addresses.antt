-- The address of an element: the frame, and so many words behind it.
use Rattle.std.proofs.Common.{◌≡◌, ℕ, ◌+◌, ◌*◌, ◌^◌, ◌<◌, ◌≤◌, List, [], ◌∷◌, ◌++◌, Bool, true, false, refl, ap, ◌∙◌}
use Rattle.std.proofs.Common.{arith}
use Rattle.std.specs.Prelude.{cond}
use Rattle.rv_meaning.specs.declared.instr.Instr.{Instr}
use Rattle.rv_meaning.specs.declared.instr.Register.{Register}
use Rattle.rv_meaning.specs.declared.instr.ShiftOp.TheVariants as Shift
use Rattle.rv_meaning.specs.Machine.{memory_size}
use Rattle.rv_meaning.specs.Words.{shifted_left, sum}
use Rattle.pli_serving.specs.ServiceState.{Services}
use Rattle.pli_coding.specs.Assembly.{Code, size_of}
use Rattle.pli_coding.specs.Frames.{display}
use Rattle.pli_coding.specs.Instructions.{add, load_word, shift}
use Rattle.pli_coding.specs.Linking.{Links}
use Rattle.pli_coding.specs.Registers.{frame_register, u1, u3, u4}
use Rattle.run_steps.specs.Bodies.{Ground, Known, with'}
use Rattle.run_steps.proofs.Bodies.{frame_is, load_piece, set_known}
use Rattle.run_steps.specs.Engine.{Base}
use Rattle.run_steps.specs.Items.{At, Linked}
use Rattle.run_steps.proofs.Items.{straight}
use Rattle.run_steps.proofs.Jumps.{back_of, front_of}
use Rattle.run_steps.proofs.Linking.{size_append}
use Rattle.run_steps.specs.Reach.{Family, Reach, reached}
use Rattle.run_steps.proofs.Reach.{reach_then, reached_holds}
use Rattle.run_steps.specs.Reaching.{Reaches}
use Rattle.run_steps.proofs.Reaching.{reach_moved}
use Rattle.element_runs.proofs.SubscriptTests.{Beside, free_with}

abbrev pub words_added : Register → Code
words_added r = shift Shift.Left u4 u1 2 ∷ add u3 r u4 ∷ []

abbrev pub found_code : Bool → (level : ℕ) → Code
found_code q level = cond q [] (load_word u3 frame_register (display level)) ++ words_added (cond q frame_register u3)

address_sum :
    (at base n : ℕ) → at + 2 ^ 24 ≤ 2 ^ 32 → base + 4 * n < 2 ^ 24 →
    sum (at + base) (shifted_left n 2) ≡ at + (base + 4 * n)
address_sum at base n valid few = omega (arith, valid, few)

sum_of : (x y a n : ℕ) → x ≡ a → y ≡ n → sum x y ≡ sum a n
sum_of x y a n e f = ap (λ u. sum u y) e ∙ ap (sum a) f

pub found_reach :
    (q : Bool) (level : ℕ) {links : Links} {code : List Instr} {i : ℕ} {g : Ground} {v : Services} {h t : ℕ → ℕ}
    {ys : Base → List (ℕ × ℕ)} (c : ℕ) (f : Family) (base n : ℕ) → Beside ys → Reaches q level g base →
    base + 4 * n < memory_size → Linked links code i (found_code q level) →
    ((b : Base) → At b i (Known g v h t (with' 6 (λ b'. n) ys) b) (f b)) →
    Reach code c f v (c + size_of (found_code q level)) v
    (λ b w. At b (i + size_of (found_code q level)) (Known g v h t (with' 28 (λ b'. b'.at + (base + 4 * n)) ys) b) w)
found_reach true level {g = g} {v = v} {h = h} {t = t} {ys = ys} c f base n beside reaches few l at =
    straight c f v v (λ b. Known g v h t (with' 28 (λ b'. b'.at + (base + 4 * n)) ys) b) l (omega arith)
    (λ b. (at b).pc)
    (λ b.
    let o = (at b).holds in
    let k = set_known (f b) 29 (shifted_left ((f b).machine.registers 6) 2) (f b).machine.pc (λ b'. shifted_left n 2)
    beside.free4 (ap (λ u. shifted_left u 2) o.regs.0) (record { body = o.body; regs = o.regs.1 }) in
    set_known _ 28 _ _ (λ b'. b'.at + (base + 4 * n)) beside.free3
    (sum_of _ _ (b.at + base) (shifted_left n 2) (frame_is k.body ∙ ap (λ u. b.at + u) reaches) k.regs.0
    ∙ address_sum b.at base n b.valid.1 few) (record { body = k.body; regs = k.regs.1 }))
found_reach false level {i = i} {g = g} {v = v} {h = h} {t = t} {ys = ys} c f base n beside reaches few l at =
    let first = load_word u3 frame_register (display level) in
    let last = words_added u3 in
    let size = size_append first last in
    let r1 = load_piece c f u3 (display level) (g.frame + (144 + 4 * level)) (λ b. b.at + base) reaches.0
    (λ b m k. reaches.1 t b m k) (free_with 6 (λ b. n) (λ x y. refl) beside.free3)
    (free_with 6 (λ b. n) (λ x y. refl) beside.far) (front_of first last l) at in
    let r2 =
    straight (c + size_of first) (reached r1) v v (λ b. Known g v h t (with' 28 (λ b'. b'.at + (base + 4 * n)) ys)
    b) (back_of first last l) (omega arith) (λ b. (reached_holds r1 b).pc)
    (λ b.
    let o = (reached_holds r1 b).holds in
    let w = reached r1 b in
    let k = set_known w 29 (shifted_left (w.machine.registers 6) 2) w.machine.pc (λ b'. shifted_left n 2)
    (free_with 28 (λ b'. b'.at + base) (λ x y. refl) beside.free4) (ap (λ u. shifted_left u 2) o.regs.1.0)
    (record { body = o.body; regs = (o.regs.0, o.regs.1.1) }) in
    set_known _ 28 _ _ (λ b'. b'.at + (base + 4 * n)) beside.free3
    (sum_of _ _ (b.at + base) (shifted_left n 2) k.regs.1.0 k.regs.0 ∙ address_sum b.at base n b.valid.1 few)
    (record { body = k.body; regs = k.regs.1.1 })) in
    reach_moved (omega (arith, size)) (omega (arith, size)) (reach_then r1 r2)
