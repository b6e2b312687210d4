-- Code that comes to something once its jumps have their words.
use Rattle.std.proofs.Common.{◌≡◌, ℕ, zero, suc, ◌-◌, ◌<◌, [], ◌∷◌, ◌++◌, length, refl, sym, ap, ◌∙◌, subst, arith, append_assoc, length-append}
use Rattle.std.specs.Prelude.{Option, Some, None, slice_index_or}
use Rattle.rv_meaning.specs.declared.instr.Register.{Register}
use Rattle.rv_meaning.specs.declared.instr.BranchTest.{BranchTest}
use Rattle.pli_coding.specs.Assembly.{Item, JumpAhead, JumpBack, Code, item_size, size_of}
use Rattle.pli_coding.specs.Instructions.{skip_where}
use Rattle.rv_assembly.specs.declared.place.Place.{Place}
use Rattle.rv_assembly.specs.Places.{IsPlace, branch, branch_kept, jump_kept, jump_place, jumped_over, patched, words_behind}
use Rattle.rv_assembly.proofs.Places.{behind_jump, is_jump, patched_jump, still_place}
use Rattle.rv_statement.specs.Ahead.{ComesTo, ComesToIf, IsJumpIf, jumped_if, turned_back}

-- a jump that was kept behind some code
pub comes_to : (before : Code) → ComesTo (before ++ jump_kept ∷ []) (jump_place before) (λ n. before ++ JumpAhead n ∷ [])
comes_to before =
    let grown : (inner : Code) → before ++ (jump_kept ∷ inner) ≡ (before ++ jump_kept ∷ []) ++ inner = λ inner. sym (append_assoc before (jump_kept ∷ []) inner) in
    record {
      kept = λ inner. subst (λ u. IsPlace 2 u (jump_place before)) (grown inner) (is_jump before inner);
      behind = λ inner. ap (λ u. words_behind u (jump_place before)) (sym (grown inner)) ∙ behind_jump before inner;
      filled = λ inner n. ap (λ u. patched u (jump_place before) (JumpAhead n)) (sym (grown inner)) ∙ patched_jump before inner (JumpAhead n) ∙ sym (append_assoc before (JumpAhead n ∷ []) inner);
    }

-- what stands before it may be said another way
pub comes_along : (code : Code) (p : Place) (f g : ℕ → Code) → ((n : ℕ) → f n ≡ g n) → ComesTo code p f → ComesTo code p g
comes_along code p f g e h =
    record { kept = h.kept; behind = h.behind; filled = λ inner n. h.filled inner n ∙ ap (λ u. u ++ inner) (e n) }

pub comes : (old pushed now : Code) (p : Place) (test : BranchTest) (r s : Register) → pushed ≡ old ++ branch test r s 2 ∷ [] → now ≡ pushed ++ jump_kept ∷ [] → p ≡ jump_place pushed
    → ComesTo now p (λ n. old ++ skip_where test r s (JumpAhead n ∷ []))
comes old pushed now p test r s h k e =
    let along : (n : ℕ) → pushed ++ JumpAhead n ∷ [] ≡ old ++ skip_where test r s (JumpAhead n ∷ []) = λ n. ap (λ u. u ++ JumpAhead n ∷ []) h ∙ append_assoc old (branch test r s 2 ∷ []) (JumpAhead n ∷ []) in
    let one : ComesTo (pushed ++ jump_kept ∷ []) (jump_place pushed) (λ n. old ++ skip_where test r s (JumpAhead n ∷ [])) = comes_along _ _ _ _ along (comes_to pushed) in
    let two : ComesTo now (jump_place pushed) (λ n. old ++ skip_where test r s (JumpAhead n ∷ [])) = subst (λ u. ComesTo u (jump_place pushed) (λ n. old ++ skip_where test r s (JumpAhead n ∷ []))) (sym k) one in
    subst (λ q. ComesTo now q (λ n. old ++ skip_where test r s (JumpAhead n ∷ []))) (sym e) two

pub comes_behind : (old mid now head : Code) (p : Place) (tail : ℕ → Code) → mid ≡ old ++ head → ComesTo now p (λ n. mid ++ tail n) → ComesTo now p (λ n. old ++ (head ++ tail n))
comes_behind old mid now head p tail e h =
    comes_along now p _ _ (λ n. ap (λ u. u ++ tail n) e ∙ append_assoc old head (tail n)) h

pub comes_behind_if : (old mid now head : Code) (p : Option Place) (tail : ℕ → Code) → mid ≡ old ++ head → ComesToIf now p (λ n. mid ++ tail n) → ComesToIf now p (λ n. old ++ (head ++ tail n))
comes_behind_if old mid now head None tail e h = λ n. h n ∙ ap (λ u. u ++ tail n) e ∙ append_assoc old head (tail n)
comes_behind_if old mid now head (Some p) tail e h = comes_behind old mid now head p tail e h

pub written_behind : (old mid now head tail : Code) → mid ≡ old ++ head → now ≡ mid ++ tail → now ≡ old ++ (head ++ tail)
written_behind old mid now head tail e h = h ∙ ap (λ u. u ++ tail) e ∙ append_assoc old head tail

-- ---- places in code that grows or gets its jumps

at_append : (xs ys : Code) (i : ℕ) (blank : Item) → i < length xs → slice_index_or (xs ++ ys) i blank ≡ slice_index_or xs i blank
at_append [] ys i blank h = absurd (omega arith)
at_append (x ∷ xs) ys zero blank h = refl
at_append (x ∷ xs) ys (suc i) blank h = at_append xs ys i blank (omega arith)

pub place_grown : (n : ℕ) (code more : Code) (p : Place) → IsPlace n code p → IsPlace n (code ++ more) p
unfolding IsPlace
place_grown n code more p h =
    (omega (arith, h.0, length-append code more), ap item_size (at_append code more p.index branch_kept h.0) ∙ h.1)

pub jump_grown : (code more : Code) (p : Option Place) → IsJumpIf code p → IsJumpIf (code ++ more) p
jump_grown code more None h = tt
jump_grown code more (Some p) h = place_grown 2 code more p h

pub jump_still : (code : Code) (p q : Option Place) → IsJumpIf code p → IsJumpIf code q → IsJumpIf (jumped_if code p) q
jump_still code None q h k = k
jump_still code (Some p) None h k = tt
jump_still code (Some p) (Some q) h k = still_place 2 2 code p q (JumpAhead (words_behind code p)) h refl k

pub over : (now : Code) (p : Place) (f : ℕ → Code) (inner : Code) → ComesTo now p f → jumped_over (now ++ inner) p ≡ f (size_of inner) ++ inner
over now p f inner h = ap (λ n. patched (now ++ inner) p (JumpAhead n)) (h.behind inner) ∙ h.filled inner (size_of inner)

pub over_if : (now : Code) (p : Option Place) (f : ℕ → Code) (inner : Code) → ComesToIf now p f → jumped_if (now ++ inner) p ≡ f (size_of inner) ++ inner
over_if now None f inner h = ap (λ u. u ++ inner) (h (size_of inner))
over_if now (Some p) f inner h = over now p f inner h

pub jump_kept_if : (now : Code) (p : Option Place) (f : ℕ → Code) (inner : Code) → ComesToIf now p f → IsJumpIf (now ++ inner) p
jump_kept_if now None f inner h = tt
jump_kept_if now (Some p) f inner h = h.kept inner

pub place_turned : (code : Code) (start : ℕ) (p : Place) → IsPlace 2 code p → IsPlace 2 (turned_back code start) p
unfolding turned_back
place_turned code start p h = place_grown 2 code (JumpBack (size_of code - start) ∷ []) p h

pub jump_turned : (code : Code) (start : ℕ) (p : Option Place) → IsJumpIf code p → IsJumpIf (turned_back code start) p
jump_turned code start None h = tt
jump_turned code start (Some p) h = place_turned code start p h

pub comes_kept : (before now : Code) (p : Place) → now ≡ before ++ jump_kept ∷ [] → p ≡ jump_place before → ComesTo now p (λ n. before ++ JumpAhead n ∷ [])
comes_kept before now p k e =
    let one : ComesTo now (jump_place before) (λ n. before ++ JumpAhead n ∷ []) = subst (λ u. ComesTo u (jump_place before) (λ n. before ++ JumpAhead n ∷ [])) (sym k) (comes_to before) in
    subst (λ q. ComesTo now q (λ n. before ++ JumpAhead n ∷ [])) (sym e) one
