-- Runs of straight code, item by item: addresses and offsets are two instructions.
use Rattle.std.specs.Prelude.{◌≡◌, ℕ, ◌+◌, ◌*◌, ◌^◌, ◌<◌, ◌≤◌, List, [], ◌∷◌, length, true, nat_lt}
use Rattle.rv_meaning.specs.declared.instr.Instr.{Instr}
use Rattle.rv_meaning.specs.Words.{sum}
use Rattle.rv_meaning.specs.Machine.{written}
use Rattle.pli_coding.specs.Assembly.{Datum, Item, Plain, BaseIn, OffsetOf, Mark, Code, item_size, size_of}
use Rattle.pli_coding.specs.Linking.{Links, upper_part, distance, place_of}
use Rattle.image_runs.specs.Runs.{Whole, Runs}
use Rattle.run_steps.specs.Unlimited.{run_on}
use Rattle.run_steps.specs.Engine.{Base, at_base, address, most_code, Steps}
use Rattle.run_steps.specs.Linking.{HasItems}
use Rattle.run_steps.specs.DataNamed.{IsNamed, IsPlaced}

-- ---- one item

-- a register that isn't x0
abbrev pub IsSet : ℕ → Type 0
IsSet r = nat_lt 0 r ≡ true

-- a machine in which a register got one value and then another, two instructions further
abbrev pub with_both : Base → ℕ → Whole → (r first second : ℕ) → Whole
with_both b i w r first second =
    record {
      machine = record {
        registers = written (written w.machine.registers r first) r second;
        memory = w.machine.memory;
        pc = address b (i + 2);
      };
      services = w.services;
    }

abbrev pub upper_base : Base → ℕ → ℕ
upper_base b i = sum (address b i) (upper_part (distance (4 * i) 0) * 2 ^ 12)

-- what has to hold where an item runs, and what then holds
abbrev pub ItemSteps : Links → List Instr → Base → ℕ → Item → Whole → (Whole → Type 0) → Type 0
ItemSteps links code b i (Plain x) w Q = Steps code b i x w Q
ItemSteps links code b i (BaseIn r) w Q = IsSet r.index × Q (with_both b i w r.index (upper_base b i) b.at)
ItemSteps links code b i (OffsetOf r s) w Q =
    (place_of links s < 2 ^ 32) × IsSet r.index × Q
    (with_both b i w r.index (upper_part (place_of links s) * 2 ^ 12) (place_of links s))
ItemSteps links code b i (Mark s) w Q = Q w
ItemSteps links code b i _ w Q = ⊥

abbrev pub Items : Links → List Instr → Base → ℕ → Code → Whole → (Whole → Type 0) → Type 0
Items links code b i [] w Q = Q w
Items links code b i (x ∷ xs) w Q = ItemSteps links code b i x w (λ w'. Items links code b (i + item_size x) xs w' Q)

-- so many instructions have run
pub record Walked (code : List Instr) (b : Base) (i n : ℕ) (w : Whole) (Q : Whole → Type 0) : Type 0 where
  pub after : Whole
  pub ran : run_on n (at_base code b) (Runs w) ≡ Runs after
  pub here : after.machine.pc ≡ address b (i + n)
  pub holds : Q after

-- ---- at every base

-- it stands at an index, and something holds
pub record At (b : Base) (i : ℕ) (P : Whole → Type 0) (w : Whole) : Type 0 where
  pub pc : w.machine.pc ≡ address b i
  pub holds : P w

-- a place of the code, linked, that a machine can hold; the data that are named there have places
pub record Linked (links : Links) (code : List Instr) (i : ℕ) (xs : Code) : Type 0 where
  pub small' : length code ≤ most_code
  pub inside : i + size_of xs ≤ length code
  pub has : HasItems links code i xs
  pub named : (d : Datum) → IsNamed d xs → IsPlaced d links.data'
