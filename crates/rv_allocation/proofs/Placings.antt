-- A placing that is tried again where its area is full.
use Rattle.std.proofs.Common.{◌≡◌, ◌≤◌, ℕ, ◌+◌, ◌-◌, [], ◌∷◌, ◌++◌, refl, ap, ◌∙◌, append_assoc, arith}
use Rattle.std.specs.Prelude.{Some, None}
use Rattle.rv_meaning.specs.declared.instr.BranchTest.TheVariants as Test
use Rattle.pli_typing.specs.TypedTree as Y
use Rattle.pli_coding.specs.Registers.{zero_register, a1}
use Rattle.pli_coding.specs.Assembly.{JumpBack, Code, size_of}
use Rattle.pli_coding.specs.Instructions.{skip_where, status_tested}
use Rattle.pli_coding.specs.Environments.{Environment, Taken}
use Rattle.pli_coding.specs.Locating.{NamePlace}
use Rattle.rv_assembly.proofs.Growing.{size_append}
use Rattle.rv_allocation.specs.Pieces.{area_raised, asked, placed, tried_again}

pub raised-size : size_of area_raised ≡ 6
unfolding area_raised
raised-size = refl

pub again-is : (words : _) → tried_again words ≡ skip_where Test.Equal a1 zero_register (area_raised ++ JumpBack (words + (1 + size_of area_raised)) ∷ [])
unfolding tried_again
again-is words = refl

pub ruleset again = (raised-size, again-is)

-- ---- in an area, and in the heap

behind : (before asked : ℕ) → before + asked - before ≡ asked
behind before asked = omega arith

pub in_area : (code between after : Code) (e : Environment) (t : Taken) (v area : Y.Variable) (name : NamePlace)
    → between ≡ code ++ asked e t v (Some area) name → after ≡ between ++ tried_again (size_of between - size_of code)
    → after ≡ code ++ placed e t v (Some area) name
unfolding placed asked tried_again area_raised
in_area code between after e t v area name h k =
    let words : size_of between - size_of code ≡ size_of (asked e t v (Some area) name) =
    ap (λ n. n - size_of code) (ap size_of h ∙ size_append code (asked e t v (Some area) name))
    ∙ behind (size_of code) (size_of (asked e t v (Some area) name)) in
    k
    ∙ ap (λ n. between ++ tried_again n) words
    ∙ ap (λ u. u ++ tried_again (size_of (asked e t v (Some area) name))) h
    ∙ append_assoc code (asked e t v (Some area) name) (tried_again (size_of (asked e t v (Some area) name)))

pub in_heap : (code between after : Code) (e : Environment) (t : Taken) (v : Y.Variable) (name : NamePlace)
    → between ≡ code ++ asked e t v None name → after ≡ between ++ status_tested
    → after ≡ code ++ placed e t v None name
unfolding placed asked
in_heap code between after e t v name h k = k ∙ ap (λ u. u ++ status_tested) h
    ∙ append_assoc code (asked e t v None name) status_tested

pub still_behind : (start : ℕ) (code between piece : Code) → start ≡ size_of code → between ≡ code ++ piece → start ≤ size_of between
still_behind start code between piece h k =
    let whole : size_of between ≡ size_of code + size_of piece = ap size_of k ∙ size_append code piece in
    omega arith

pub ruleset placings = (still_behind, in_area, in_heap)
