-- Short code in a short memory, computed on the definitions.
use Rattle.std.proofs.Common.{◌≡◌, ℕ, ◌+◌, pos, List, [], ◌∷◌, ◌++◌, length, Option, Some, None, true, refl, lit<}
use Rattle.std.specs.Prelude.{◌==◌, if◌then◌else◌, replicate}
use Rattle.rv_meaning.specs.declared.instr.Register.{Register}
use Rattle.rv_meaning.specs.declared.instr.StoreKind.TheVariants as S
use Rattle.rv_meaning.specs.declared.instr.Instr.{Instr}
use Rattle.rv_meaning.specs.declared.instr.Instr.TheVariants as I
use Rattle.pli_meaning.specs.declared.outcome.End.TheVariants as E
use Rattle.pli_serving.specs.Bytes.{number_bytes, word_at, is_data}
use Rattle.pli_serving.specs.ServiceState.{first_services}
use Rattle.image_runs.specs.Runs.{heap_at, layout_of, Whole, Run, Runs, run_on, shown_by}

abbrev base : ℕ
base = 65536

abbrev a0 : Register
a0 = record { index = 10; in_range = lit< tt }

abbrev a1 : Register
a1 = record { index = 11; in_range = lit< tt }

-- a run of this code so far that nothing was done, with a memory, and with these numbers in a7, a0 and a1
abbrev begun : List ℕ → (number x y : ℕ) → Run
begun memory number x y =
    Runs (record {
      machine = record { registers = λ r. if r == 17 then number else (if r == 10 then x else y); memory = memory; pc = base };
      services = first_services [] [];
    })

-- after so many instructions of this code
abbrev after : ℕ → List Instr → Run → Run
unfolding run_on
after n code run = run_on n (record { base = base; code = code }) run

abbrev seen : {X : Type 0} → (Whole → X) → Run → Option X
seen look (Runs w) = Some (look w)
seen look run = None

-- a call, and right behind it a list of one F(5)
abbrev call_and_list : List ℕ
call_and_list = replicate 4 0 ++ (number_bytes 4 1 ++ (number_bytes 4 1 ++ (number_bytes 4 1 ++ number_bytes 4 5)))

-- service 34 finds the list, gives back a0 and a1, and the next instruction follows
list_begun :
    seen (λ w. w.machine.registers 10 ∷ w.machine.registers 11 ∷ w.machine.pc ∷ length w.services.edits ∷ []) (after 1 (I.Ecall ∷ []) (begun call_and_list 34 4 1))
    ≡ Some (4 ∷ 1 ∷ (base + 4) ∷ 1 ∷ [])
unfolding after
list_begun = refl

-- but not in the code
list_in_code : shown_by (after 1 (I.Ecall ∷ I.Ecall ∷ []) (begun call_and_list 34 4 1)) ≡ None
unfolding after
list_in_code = refl

-- a word is stored
word_stored :
    seen (λ w. word_at 8 w.machine.memory) (after 1 (I.Store S.Word a0 a1 (pos 8) ∷ []) (begun (replicate 16 0) 0 base 7)) ≡ Some 7
unfolding after
word_stored = refl

-- service 2 ends the run, and no more instructions follow
run_ended :
    shown_by (after 9 (I.Ecall ∷ []) (begun [] 2 0 0)) ≡ Some (record { acts = 1; output = []; raised = []; end = E.Finished })
unfolding after
run_ended = refl

-- the heap is data
heap_is_data : is_data (layout_of 4) heap_at 16 ≡ true
heap_is_data = refl
