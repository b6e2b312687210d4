-- A register goes on by a constant, or to what stands at a place that it gives.
use Rattle.std.proofs.Common.{◌≡◌, ℕ, ◌+◌, ◌^◌, ◌<◌, List, ◌∙◌, arith}
use Rattle.std.specs.Prelude.{ℤ}
use Rattle.rv_meaning.specs.declared.instr.Instr.{Instr}
use Rattle.rv_meaning.specs.declared.instr.Instr.TheVariants as I
use Rattle.rv_meaning.specs.declared.instr.ImmediateOp.TheVariants as Imm
use Rattle.rv_meaning.specs.declared.instr.Register.{Register}
use Rattle.rv_meaning.specs.declared.instr.LoadKind.{LoadKind}
use Rattle.rv_meaning.specs.Words.{word, sum}
use Rattle.rv_meaning.specs.Memory.{load}
use Rattle.rv_meaning.specs.Machine.{memory_size, load_width, extended}
use Rattle.pli_serving.specs.ServiceState.{Services}
use Rattle.pli_coding.specs.Assembly.{size_of}
use Rattle.pli_coding.specs.Instructions.{plus, displaced, is_immediate}
use Rattle.pli_coding.specs.Linking.{Links}
use Rattle.run_steps.specs.Engine.{Base}
use Rattle.run_steps.specs.Items.{Linked, At}
use Rattle.run_steps.specs.Bodies.{Ground, Known, Free, IsNear, PlaceFrom, with'}
use Rattle.run_steps.proofs.Bodies.{at_place, set_known, lose_known, displaced_by}
use Rattle.run_steps.specs.Reach.{Family, Reach}

pub plus_own : {links : Links} {code : List Instr} {i : ℕ} {g : Ground} {v : Services} {h t : ℕ → ℕ}
    {rs : Base → List (ℕ × ℕ)} (c : ℕ) (f : Family) (r : Register) (z : ℤ) (y x : Base → ℕ) → word z < 2 ^ 32 →
    ((b : Base) → y b < 2 ^ 32) → IsNear r.index → ((b : Base) → sum (y b) (word z) ≡ x b) → Free rs r.index →
    Free (with' r.index y rs) 31 → Linked links code i (plus r r z) →
    ((b : Base) → At b i (Known g v h t (with' r.index y rs) b) (f b)) →
    Reach code c f v (c + size_of (plus r r z)) v
    (λ b w. At b (i + size_of (plus r r z)) (Known g v h t (with' r.index x rs) b) w)
plus_own {links = links} {code = code} {g = g} {v = v} {h = h} {t = t} {rs = rs} c f r z y x small' fits near sums
    free far l at =
    displaced_by (is_immediate z) c f (λ q d. I.Immediate Imm.Add r q d) r z y (Known g v h t (with' r.index y rs))
    (Known g v h t (with' r.index x rs)) small' fits near (λ b. (at b).holds.regs.0) (omega arith)
    (record {
      does = λ b j w q d k e. set_known w r.index (sum (w.machine.registers q.index) (word d)) _ x free (e ∙ sums b)
          (record { body = k.body; regs = k.regs.1 });
      lost = λ b w u i k. lose_known w 31 u i far k;
    })
    l at

inside_memory : (b : Base) (n : ℕ) → n < memory_size → b.at + n < 2 ^ 32
inside_memory b n h = let v = b.valid.1 in omega (arith, v, h)

pub load_own : {links : Links} {code : List Instr} {i : ℕ} {g : Ground} {v : Services} {h t : ℕ → ℕ} {rs :
    Base → List (ℕ × ℕ)} (c : ℕ) (f : Family) (r : Register) (kind : LoadKind) (z : ℤ) (base o : ℕ) (x : Base → ℕ)
    → PlaceFrom base z o → base < memory_size → IsNear r.index
    → ((b : Base) (m : List ℕ) → g.memory t b m → extended kind (load (load_width kind) m o) ≡ x b) → Free rs r.index
    → Free (with' r.index (λ b. b.at + base) rs) 31 → Linked links code i (displaced (λ s d. I.Load kind r s d) r z)
    → ((b : Base) → At b i (Known g v h t (with' r.index (λ b'. b'.at + base) rs) b) (f b))
    → Reach code c f v (c + size_of (displaced (λ s d. I.Load kind r s d) r z)) v
    (λ b w. At b (i + size_of (displaced (λ s d. I.Load kind r s d) r z)) (Known g v h t (with' r.index x rs) b) w)
load_own {g = g} {v = v} {h = h} {t = t} {rs = rs} c f r kind z base o x place within near reads free far l at =
    displaced_by (is_immediate z) c f (λ s d. I.Load kind r s d) r z (λ b. b.at + base)
    (Known g v h t (with' r.index (λ b. b.at + base) rs)) (Known g v h t (with' r.index x rs)) place.small'
    (λ b. inside_memory b base within) near (λ b. (at b).holds.regs.0) (omega arith)
    (record {
      does = λ b j w s d k e. (
        at_place b place _ e,
        set_known w r.index (extended kind (load (load_width kind) w.machine.memory o)) _ x free
            (reads b w.machine.memory k.body.memory) (record { body = k.body; regs = k.regs.1 }),
      );
      lost = λ b w u i k. lose_known w 31 u i far k;
    })
    l at
