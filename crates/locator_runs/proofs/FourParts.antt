-- Code for the four words of a name, one after the other.
use Rattle.std.proofs.Common.{ℕ, suc, ◌+◌, ◌<◌, List, ◌++◌, arith}
use Rattle.rv_meaning.specs.declared.instr.Instr.{Instr}
use Rattle.pli_serving.specs.ServiceState.{Services}
use Rattle.pli_coding.specs.Assembly.{Code, size_of}
use Rattle.pli_coding.specs.Linking.{Links}
use Rattle.image_runs.specs.Runs.{Whole}
use Rattle.run_steps.specs.Engine.{Base}
use Rattle.run_steps.specs.Items.{At, Linked}
use Rattle.run_steps.proofs.Jumps.{back_of, front_of}
use Rattle.run_steps.proofs.Linking.{size_append}
use Rattle.run_steps.specs.Reach.{Family, Reach, reached}
use Rattle.run_steps.proofs.Reach.{reach_then, reached_holds}
use Rattle.run_steps.proofs.Reaching.{reach_moved}

abbrev pub four_parts : (ℕ → Code) → Code
four_parts part = part 0 ++ (part 1 ++ (part 2 ++ part 3))

-- from what holds before the nth to what holds before the next
abbrev pub PartGoes :
    Links → List Instr → Services → (ℕ → Base → Whole → Type 0) → (ℕ → Code) → Type 0
PartGoes links code v P part =
    (n : ℕ) (c i : ℕ) (f : Family) → n < 4 → Linked links code i (part n) →
    ((b : Base) → At b i (λ y. P n b y) (f b)) →
    Reach code c f v (c + size_of (part n)) v (λ b y. At b (i + size_of (part n)) (λ z. P (suc n) b z) y)

pub four_go :
    (links : Links) (code : List Instr) (v : Services) (P : ℕ → Base → Whole → Type 0) (part : ℕ → Code) (c i : ℕ)
    (f : Family) → PartGoes links code v P part → Linked links code i (four_parts part) →
    ((b : Base) → At b i (λ y. P 0 b y) (f b)) →
    Reach code c f v (c + size_of (four_parts part)) v
    (λ b y. At b (i + size_of (four_parts part)) (λ z. P 4 b z) y)
four_go links code v P part c i f goes l there =
    let n1 = size_append (part 0) (part 1 ++ (part 2 ++ part 3)) in
    let n2 = size_append (part 1) (part 2 ++ part 3) in
    let n3 = size_append (part 2) (part 3) in
    let l1 = back_of (part 0) (part 1 ++ (part 2 ++ part 3)) l in
    let l2 = back_of (part 1) (part 2 ++ part 3) l1 in
    let c1 = c + size_of (part 0) in
    let i1 = i + size_of (part 0) in
    let c2 = c1 + size_of (part 1) in
    let i2 = i1 + size_of (part 1) in
    let r0 = goes 0 c i f (omega arith) (front_of (part 0) (part 1 ++ (part 2 ++ part 3)) l) there in
    let r1 = goes 1 c1 i1 (reached r0) (omega arith) (front_of (part 1) (part 2 ++ part 3) l1) (reached_holds r0) in
    let r2 = goes 2 c2 i2 (reached r1) (omega arith) (front_of (part 2) (part 3) l2) (reached_holds r1) in
    let r3 = goes 3 (c2 + size_of (part 2)) (i2 + size_of (part 2)) (reached r2) (omega arith)
    (back_of (part 2) (part 3) l2) (reached_holds r2) in
    reach_moved (omega (arith, n1, n2, n3)) (omega (arith, n1, n2, n3))
    (reach_then r0 (reach_then r1 (reach_then r2 r3)))
