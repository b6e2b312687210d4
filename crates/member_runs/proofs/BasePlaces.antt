-- Pieces of code whatever stands in memory besides: a place of the running frame, and loads and stores at an address
-- that
-- is a function of the base.
use Rattle.std.proofs.Common.{◌≡◌, ℕ, ◌+◌, ◌*◌, ◌%◌, ◌^◌, ◌<◌, ◌≤◌, List, [], ◌∷◌, length, sym, ◌∙◌, subst, arith}
use Rattle.std.proofs.lemmas.Int.{ints}
use Rattle.std.specs.Prelude.{ℤ, pos}
use Rattle.rv_meaning.specs.declared.instr.ImmediateOp.TheVariants as Imm
use Rattle.rv_meaning.specs.declared.instr.Instr.{Instr}
use Rattle.rv_meaning.specs.declared.instr.Instr.TheVariants as I
use Rattle.rv_meaning.specs.declared.instr.LoadKind.TheVariants as Load
use Rattle.rv_meaning.specs.declared.instr.Register.{Register}
use Rattle.rv_meaning.specs.declared.instr.StoreKind.TheVariants as Store
use Rattle.rv_meaning.specs.Machine.{memory_size}
use Rattle.rv_meaning.specs.Memory.{load, store}
use Rattle.rv_meaning.specs.Words.{sum, word}
use Rattle.pli_meaning.specs.StorageState.{Activation}
use Rattle.pli_serving.specs.ServiceState.{Services}
use Rattle.pli_coding.specs.Assembly.{size_of}
use Rattle.pli_coding.specs.Frames.{MemoryParts, own_offset}
use Rattle.pli_coding.specs.Instructions.{is_immediate, load_word, plus, store_word}
use Rattle.pli_coding.specs.Linking.{Links}
use Rattle.pli_coding.specs.Registers.{frame_register}
use Rattle.activation_relation.specs.Frames.{FramesStand, frame_under}
use Rattle.activation_relation.specs.Layers.{Layer}
use Rattle.run_steps.specs.Bodies.{Free, Ground, IsNear, Known, PlaceOf, reserved_are, with'}
use Rattle.run_steps.proofs.Bodies.{displaced_by, load_piece, lose_known, set_known, stored_body}
use Rattle.run_steps.specs.Engine.{Base}
use Rattle.run_steps.specs.Items.{At, Linked}
use Rattle.run_steps.proofs.Jumps.{back_of, front_of}
use Rattle.run_steps.proofs.Linking.{size_append}
use Rattle.run_steps.proofs.Numbers.{above_small}
use Rattle.run_steps.specs.Reach.{Family, Reach, reached}
use Rattle.run_steps.proofs.Reach.{reach_then, reached_holds}
use Rattle.run_steps.proofs.Reaching.{reach_moved}
use Rattle.image_runs.specs.Runs.{Whole}
use Rattle.program_runs.proofs.Variables.{own_code}

-- ---- the frame's own places

pub own_word :
    (parts : MemoryParts) (base : ℕ) (m : List ℕ) (as' : List Activation) (φs : List Layer) →
    FramesStand parts base m as' φs → load 4 m (frame_under parts φs + 36) ≡ frame_under parts φs
own_word parts base m [] [] h = h.own
own_word parts base m [] (φ ∷ φs) h = absurd h
own_word parts base m (a ∷ as') [] h = absurd h
own_word parts base m (a ∷ as') (φ ∷ φs) h = h.0.own

offset_sum : (at n : ℕ) → at + n < 2 ^ 24 → sum at (word (pos n)) ≡ at + n
offset_sum at n few = omega (arith, ints, few)

-- whatever stands in memory besides
pub own_at :
    {links : Links} {code : List Instr} {i : ℕ} {g : Ground} {v : Services} {numbers : ℕ → ℕ}
    {rs : Base → List (ℕ × ℕ)} (c : ℕ) (f : Family) (r : Register) (place : ℕ) →
    PlaceOf g own_offset (g.frame + 36) →
    ((b : Base) (m : List ℕ) → g.memory (λ n. 0) b m → load 4 m (g.frame + 36) ≡ g.frame) →
    g.frame + place < 2 ^ 24 → IsNear r.index → Free rs r.index → Free rs 31 →
    Free (with' r.index (λ b. g.frame) rs) 31 → Linked links code i (own_code r place) →
    ((b : Base) → At b i (Known g v numbers (λ n. 0) rs b) (f b)) →
    Reach code c f v (c + size_of (own_code r place)) v
    (λ b y. At b (i + size_of (own_code r place)) (Known g v numbers (λ n. 0)
    (with' r.index (λ b'. g.frame + place) rs) b) y)
own_at {g = g} {v} {numbers} {rs} c f r place own reads few near free far far' l there =
    let at = g.frame in
    let first = load_word r frame_register own_offset in
    let second = plus r r (pos place) in
    let n = size_append first second in
    let r1 = load_piece c f r own_offset (at + 36) (λ b. at) own reads free far (front_of first second l) there in
    let r2 = displaced_by (is_immediate (pos place)) (c + size_of first) (reached r1)
    (λ q d. I.Immediate Imm.Add r q d) r (pos place) (λ b. at)
    (Known g v numbers (λ n'. 0) (with' r.index (λ b. at) rs))
    (Known g v numbers (λ n'. 0) (with' r.index (λ b. at + place) rs))
    (above_small place (omega (arith, few))) (λ b. omega (arith, few)) near
    (λ b. (reached_holds r1 b).holds.regs.0) (omega arith)
    (record {
      does = λ b j y q d o e.
          set_known y r.index (sum (y.machine.registers q.index) (word d)) _ (λ b'. at + place) free
          (e ∙ offset_sum at place few) (record { body = o.body; regs = o.regs.1 });
      lost = λ b y u j o. lose_known y 31 u j far' o;
    })
    (back_of first second l) (reached_holds r1) in
    reach_moved (omega (arith, n)) (omega (arith, n)) (reach_then r1 r2)

-- ---- places that are a function of the base

-- a word at a displacement from another place
pub record WordFrom (b : Base) (base : ℕ) (z : ℤ) (o : ℕ) : Type 0 where
  pub sums : sum (b.at + base) (word z) ≡ b.at + o
  pub aligned : o % 4 ≡ 0
  pub inside : o + 4 ≤ memory_size

inside_memory : (b : Base) (n : ℕ) → n < memory_size → b.at + n < 2 ^ 32
inside_memory b n h = let v = b.valid.1 in omega (arith, v, h)

-- what stands there comes into a register
pub load_at :
    {links : Links} {code : List Instr} {i : ℕ} {g : Ground} {v : Services} {h t : ℕ → ℕ}
    {rs : Base → List (ℕ × ℕ)} (c : ℕ) (f : Family) (r y : Register) (z : ℤ) (base o x : Base → ℕ) →
    word z < 2 ^ 32 → ((b : Base) → WordFrom b (base b) z (o b)) → ((b : Base) → base b < memory_size) →
    IsNear y.index → ((b : Base) (w : Whole) → Known g v h t rs b w → w.machine.registers y.index ≡ b.at + base b) →
    ((b : Base) (m : List ℕ) → g.memory t b m → load 4 m (o b) ≡ x b) → Free rs r.index → Free rs 31 →
    Linked links code i (load_word r y z) → ((b : Base) → At b i (Known g v h t rs b) (f b)) →
    Reach code c f v (c + size_of (load_word r y z)) v
    (λ b w. At b (i + size_of (load_word r y z)) (Known g v h t (with' r.index x rs) b) w)
load_at {g = g} {v = v} {h = h} {t = t} {rs = rs} c f r y z base o x few place within near based reads free far l at =
    displaced_by (is_immediate z) c f (λ s d. I.Load Load.Word r s d) y z (λ b. b.at + base b) (Known g v h t rs)
    (Known g v h t (with' r.index x rs)) few (λ b. inside_memory b (base b) (within b)) near
    (λ b. based b (f b) (at b).holds) (omega arith)
    (record {
      does = λ b j w s d k e. (
        record {
          offset = o b;
          is = e ∙ (place b).sums;
          aligned = (place b).aligned;
          inside = (place b).inside;
        },
        set_known w r.index (load 4 w.machine.memory (o b)) _ x free (reads b w.machine.memory k.body.memory) k,
      );
      lost = λ b w u i k. lose_known w 31 u i far k;
    })
    l at

-- a register goes there
pub store_at :
    {links : Links} {code : List Instr} {i : ℕ} {g : Ground} (g' : Ground) {v : Services} {h t : ℕ → ℕ}
    {rs : Base → List (ℕ × ℕ)} (c : ℕ) (f : Family) (r y : Register) (z : ℤ) (base o x : Base → ℕ) →
    word z < 2 ^ 32 → ((b : Base) → WordFrom b (base b) z (o b)) → ((b : Base) → 4 * length code ≤ o b) →
    ((b : Base) → base b < memory_size) → IsNear y.index →
    ((b : Base) (w : Whole) → Known g v h t rs b w → w.machine.registers y.index ≡ b.at + base b) →
    IsNear r.index → ((b : Base) (w : Whole) → Known g v h t rs b w → w.machine.registers r.index ≡ x b) →
    ((b : Base) → reserved_are b g h ≡ reserved_are b g' h) →
    ((b : Base) (m : List ℕ) → length m ≡ memory_size → g.memory t b m → g'.memory t b (store 4 m (o b) (x b))) →
    Free rs 31 → Linked links code i (store_word y r z) → ((b : Base) → At b i (Known g v h t rs b) (f b)) →
    Reach code c f v (c + size_of (store_word y r z)) v
    (λ b w. At b (i + size_of (store_word y r z)) (Known g' v h t rs b) w)
store_at {g = g} g' {v = v} {h = h} {t = t} {rs = rs} c f r y z base o x few place above within near' based near value
    same writes far l at =
    displaced_by (is_immediate z) c f (λ s d. I.Store Store.Word s r d) y z (λ b. b.at + base b) (Known g v h t rs)
    (Known g' v h t rs) few (λ b. inside_memory b (base b) (within b)) near' (λ b. based b (f b) (at b).holds)
    (omega arith)
    (record {
      does = λ b j w s d k e. (
        record {
          offset = o b;
          is = e ∙ (place b).sums;
          aligned = (place b).aligned;
          inside = (place b).inside;
        },
        above b,
        record {
          body = stored_body g' t Store.Word w (o b) (w.machine.registers r.index) _ (same b)
              (subst (λ u. g'.memory t b (store 4 w.machine.memory (o b) u)) (sym (value b w k))
              (writes b w.machine.memory k.body.bytes k.body.memory)) k.body;
          regs = k.regs;
        },
      );
      lost = λ b w u i k. lose_known w 31 u i far k;
    })
    l at
