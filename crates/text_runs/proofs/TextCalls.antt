-- Calls of services that leave the memory, and the test of their status.
use Rattle.std.proofs.Common.{◌≡◌, ℕ, ◌+◌, ◌^◌, ◌<◌, ◌≤◌, List, [], ◌∷◌, Option, Some, None, true, false, refl, ap}
use Rattle.std.proofs.Common.{◌∙◌, arith}
use Rattle.std.specs.Prelude.{◌==◌}
use Rattle.rv_meaning.specs.declared.instr.Instr.{Instr}
use Rattle.rv_meaning.specs.declared.instr.Instr.TheVariants as I
use Rattle.rv_meaning.specs.declared.instr.BranchTest.TheVariants as Test
use Rattle.pli_serving.specs.ServiceState.{Services}
use Rattle.pli_serving.specs.Answers.{Answer, Done}
use Rattle.pli_serving.specs.Finding.{Call}
use Rattle.pli_serving.specs.Outcomes.{or_status}
use Rattle.pli_coding.specs.Assembly.{JumpTo, Plain, RaiseError}
use Rattle.pli_coding.specs.Instructions.{service, small, status_tested}
use Rattle.pli_coding.specs.Linking.{Links}
use Rattle.pli_coding.specs.Registers.{a1, a7, zero_register}
use Rattle.run_steps.specs.Bodies.{Ground, Known, reserved_are}
use Rattle.run_steps.proofs.Bodies.{zero_is}
use Rattle.run_steps.specs.Calls.{Calling}
use Rattle.run_steps.proofs.Calls.{call_done, called}
use Rattle.run_steps.specs.Engine.{Base, call_at}
use Rattle.run_steps.specs.Items.{At, Linked}
use Rattle.run_steps.proofs.Items.{straight}
use Rattle.run_steps.proofs.Jumps.{back_of, front_of, skip_passed, skip_taken}
use Rattle.run_steps.proofs.Reaching.{reach_moved}
use Rattle.run_steps.specs.Reach.{Family, Reach, reached}
use Rattle.run_steps.proofs.Reach.{reach_then, reached_holds}
use Rattle.run_steps.specs.Unlimited as V
use Rattle.block_runs.proofs.BlockEntries.{small_is}

-- ---- calls

-- a service by its number, what it is given in a0 to a2, and what it answers in a0 and a1
pub record Asking : Type 0 where
  pub number : ℕ
  pub x : Base → ℕ
  pub y : Base → ℕ
  pub z : Base → ℕ
  pub first : Base → ℕ
  pub second : Base → ℕ
  pub answer : Call → ℕ → ℕ → ℕ → Answer

abbrev pub three : (x y z : Base → ℕ) → Base → List (ℕ × ℕ)
three x y z b = (10, x b) ∷ (11, y b) ∷ (12, z b) ∷ []

abbrev pub two : (x y : Base → ℕ) → Base → List (ℕ × ℕ)
two x y b = (10, x b) ∷ (11, y b) ∷ []

-- from services to others, at the same memory
pub record IsAsking (code : List Instr) (v v' : Services) (a : Asking) : Type 0 where
  pub small' : a.number < 2 ^ 31
  pub serves : (c : Call) (r : ℕ → ℕ) → V.served a.number c r ≡ a.answer c (r 10) (r 11) (r 12)
  pub answers :
      (b : Base) (m : List ℕ) →
      a.answer (call_at code v m) (a.x b) (a.y b) (a.z b) ≡ Done v' m (a.first b) (a.second b)
  pub more : v.world.acts ≤ v'.world.acts

-- on the same ground but for what the services' state says of memory
pub record IsSame (g g' : Ground) (h t : ℕ → ℕ) : Type 0 where
  pub reserved : (b : Base) → reserved_are b g h ≡ reserved_are b g' h
  pub memory : (b : Base) (m : List ℕ) → g.memory t b m → g'.memory t b m

abbrev asked : Asking → Base → List (ℕ × ℕ)
asked a b = (10, a.x b) ∷ (11, a.y b) ∷ (12, a.z b) ∷ (17, a.number) ∷ []

pub asks :
    {links : Links} {code : List Instr} {i : ℕ} {g g' : Ground} {v v' : Services} {h t : ℕ → ℕ} (a : Asking) (c : ℕ)
    (f : Family) → IsAsking code v v' a → IsSame g g' h t → Linked links code i (service a.number) →
    ((b : Base) → At b i (Known g v h t (three a.x a.y a.z) b) (f b)) →
    Reach code c f v (c + 2) v' (λ b y. At b (i + 2) (Known g' v' h t (two a.first a.second) b) y)
asks {links} {code} {i} {g} {g'} {v} {v'} {h} {t} a c f is same l at =
    let fits = is.small' in
    let front = small a7 a.number ∷ [] in
    let last = Plain I.Ecall ∷ [] in
    let r = straight c f v v (λ b. Known g v h t (asked a) b) (front_of front last l) (omega arith) (λ b. (at b).pc)
    (λ b. let o = (at b).holds in record {
      body = record {
        services = o.body.services;
        registers = o.body.registers;
        bytes = o.body.bytes;
        memory = o.body.memory;
      };
      regs = (
        o.regs.0,
        (o.regs.1.0, (o.regs.1.1.0, (small_is _ a.number (zero_is o.body) (omega (arith, fits)), tt))),
      );
    }) in
    let f' = reached r in
    let calling : Calling links code (i + 1) f' (λ b. Done v' (f' b).machine.memory (a.first b) (a.second b)) = record {
      linked = back_of front last l;
      pc = λ b. (reached_holds r b).pc;
      answers = λ b.
          let o = (reached_holds r b).holds in
          called code (f' b) v a.number (a.x b) (a.y b) (a.z b) _ _ (λ q x0 x1 x2 x3 x4. a.answer q x0 x1 x2)
          o.body.services o.regs.1.1.1.0 o.regs.0 o.regs.1.0 o.regs.1.1.0 refl refl is.serves
          ∙ is.answers b (f' b).machine.memory;
    } in
    let q = call_done (c + 1) f' v v' (λ b. (f' b).machine.memory) a.first a.second
    (λ b. Known g' v' h t (two a.first a.second) b) is.more calling
    (λ b. let o = (reached_holds r b).holds.body in record {
      body = record {
        services = refl;
        registers = o.registers ∙ same.reserved b;
        bytes = o.bytes;
        memory = same.memory b (f' b).machine.memory o.memory;
      };
      regs = (refl, (refl, tt));
    }) in
    reach_moved (omega arith) (omega arith) (reach_then r q)

-- ---- a status

-- what a service answers: its code as a status beside a0, or other services and a result
abbrev pub told :
    {X : Type 0} → Services → List ℕ → (x code : ℕ) → (X → Services) → (X → ℕ) → Option X → Answer
told v m x code after result None = Done v m x code
told v m x code after result (Some r) = Done (after r) m (result r) 0

pub status_told :
    {X : Type 0} (c : Call) (x code : ℕ) (after : X → Services) (result : X → ℕ) (o : Option X) →
    or_status c x code o (λ r. Done (after r) c.memory (result r) 0) ≡ told c.services c.memory x code after result o
status_told c x code after result None = refl
status_told c x code after result (Some r) = refl

is_none : (y z : ℕ) → y ≡ 0 → z ≡ 0 → (y == z) ≡ true
is_none y z e e' = ap (λ u. u == z) e ∙ ap (λ u. 0 == u) e'

is_some : (c y z : ℕ) → (c == 0) ≡ false → y ≡ c → z ≡ 0 → (y == z) ≡ false
is_some c y z n e e' = ap (λ u. u == z) e ∙ ap (λ u. c == u) e' ∙ n

-- with the status 0 the code goes on behind the test
pub status_none :
    {links : Links} {code : List Instr} {i : ℕ} {g : Ground} {v : Services} {h t : ℕ → ℕ} {x : Base → ℕ} (c : ℕ)
    (f : Family) → Linked links code i status_tested →
    ((b : Base) → At b i (Known g v h t (two x (λ b'. 0)) b) (f b)) →
    Reach code c f v (c + 3) v (λ b y. At b (i + 3) (Known g v h t (two x (λ b'. 0)) b) y)
status_none {links} c f l at =
    skip_taken c f Test.Equal a1 zero_register (JumpTo RaiseError ∷ []) l at
    (λ b. is_none _ _ (at b).holds.regs.1.0 (zero_is (at b).holds.body))

-- with another one it goes to the jump
pub status_some :
    {links : Links} {code : List Instr} {i : ℕ} {g : Ground} {v : Services} {h t : ℕ → ℕ} {x : Base → ℕ}
    (c status : ℕ) (f : Family) → (status == 0) ≡ false → Linked links code i status_tested →
    ((b : Base) → At b i (Known g v h t (two x (λ b'. status)) b) (f b)) →
    Reach code c f v (c + 1) v (λ b y. At b (i + 1) (Known g v h t (two x (λ b'. status)) b) y)
status_some {links} c status f some l at =
    skip_passed c f Test.Equal a1 zero_register (JumpTo RaiseError ∷ []) l at
    (λ b. is_some status _ _ some (at b).holds.regs.1.0 (zero_is (at b).holds.body))
