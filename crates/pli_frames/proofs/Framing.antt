-- The frames of all blocks, one after the other, and the numbers of parameters that they ask for.
use Rattle.std.proofs.Common.{◌≡◌, ◌≤◌, ℕ, zero, suc, ◌+◌, ◌<◌, Bool, true, false, cond, List, [], ◌∷◌, ◌++◌, map}
use Rattle.std.proofs.Common.{length, drop, get_or, Option, Some, None, refl, sym, ap, ◌∙◌, append_assoc, append-nil}
use Rattle.std.proofs.Common.{arith}
use Rattle.std.specs.Prelude.{nat_eq, ◌==◌, if◌then◌else◌, slice_get, unwrap_or, Vec}
use Rattle.std.proofs.lemmas.List.{map_push}
use Rattle.pli_typing.specs.declared.statement.Procedure.{Procedure}
use Rattle.pli_typing.specs.TypedTree as Y
use Rattle.std.specs.declared.alloc.Global.{Global}
use Rattle.pli_typing.specs.declared.typed.DeclaredVariable.{DeclaredVariable}
use Rattle.pli_typing.specs.declared.statement.Typed.{Typed}
use Rattle.pli_typing.specs.TypedStatementView.{declared_variable_of, procedure_of, program_of}
use Rattle.pli_meaning.specs.DeclaredShapes.{head_of, procedure_numbered, variables_of_block}
use Rattle.pli_coding.specs.Frames.{parameters_in}
use Rattle.pli_frames.specs.declared.body.BlockWords.{BlockWords as BlockWordsHeld}
use Rattle.pli_frames.specs.declared.frame.BlockFrame.{BlockFrame as BlockFrameHeld}
use Rattle.pli_frames.specs.Blocks.{block_words_of}
use Rattle.pli_frames.specs.Plans.{BlockFrame, frame_of, frame_shown, parameters_found}
use Rattle.pli_frames.proofs.Most.{shown_from}

-- one more frame
pub next_frame : (program : Y.Program) (xs : List BlockWordsHeld) (i : ℕ) (x : BlockWordsHeld) (done more : List BlockFrameHeld) (f : BlockFrameHeld) (target : List BlockFrame) → i < length xs → x ≡ get_or xs i x → more ≡ done ++ f ∷ [] → frame_shown f ≡ frame_of program (block_words_of x)
    → map frame_shown done ++ map (frame_of program) (map block_words_of (drop i xs)) ≡ target → map frame_shown more ++ map (frame_of program) (map block_words_of (drop (i + 1) xs)) ≡ target
next_frame program xs i x done more f target h e m s is =
    let rest : List BlockFrame = map (frame_of program) (map block_words_of (drop (i + 1) xs)) in
    ap (λ u. u ++ rest) (ap (map frame_shown) m ∙ map_push frame_shown done f)
    ∙ append_assoc (map frame_shown done) (frame_shown f ∷ []) rest
    ∙ ap (λ g. map frame_shown done ++ (g ∷ rest)) s
    ∙ ap (λ bs. map frame_shown done ++ map (frame_of program) bs) (sym (shown_from block_words_of xs i x h e))
    ∙ is

pub nothing_behind : (fs : List BlockFrame) → fs ++ [] ≡ fs
nothing_behind fs = append-nil fs

-- a procedure before those that were counted
if_cond : (b : Bool) (o p : Option ℕ) → cond b o p ≡ (if b then o else p)
if_cond true o p = refl
if_cond false o p = refl

pub next_count : (xs : List Procedure) (i n : ℕ) (x : Procedure) (now next : Option ℕ) → i < length xs → x ≡ get_or xs i x → next ≡ cond (nat_eq x.block.head.number n) (Some (length x.parameters.items)) now → now ≡ parameters_found n (map procedure_of (drop (i + 1) xs)) → next ≡ parameters_found n (map procedure_of (drop i xs))
next_count xs i n x now next h e u is =
    u
    ∙ ap (λ o. cond (nat_eq x.block.head.number n) (Some (length x.parameters.items)) o) is
    ∙ if_cond (nat_eq x.block.head.number n) (Some (length x.parameters.items)) (parameters_found n (map procedure_of (drop (i + 1) xs)))
    ∙ ap (parameters_found n) (sym (shown_from procedure_of xs i x h e))

-- what is found is what a block has
found_length : (b : Bool) (p : Y.Procedure) (o : Option Y.Procedure) (k : Option ℕ) → unwrap_or k 0 ≡ length (parameters_in o) → unwrap_or (if b then Some (length p.parameters) else k) 0 ≡ length (parameters_in (if b then Some p else o))
found_length true p o k e = refl
found_length false p o k e = e

pub parameters_are : (n : ℕ) (ps : List Y.Procedure) → unwrap_or (parameters_found n ps) 0 ≡ length (parameters_in (procedure_numbered n ps))
parameters_are n [] = refl
parameters_are n (p ∷ ps) =
    found_length ((head_of p.block).number == n) p (procedure_numbered n ps) (parameters_found n ps) (parameters_are n ps)

-- ---- what a block declares

at_map : {X Y : Type 0} (f : X → Y) (xs : List X) (n : ℕ) (x : X) → n < length xs → x ≡ get_or xs n x → slice_get (map f xs) n ≡ Some (f x)
at_map f [] n x h e = absurd (omega arith)
at_map f (y ∷ xs) zero x h e = ap (λ z. Some (f z)) (sym e)
at_map f (y ∷ xs) (suc n) x h e = at_map f xs n x (omega arith) e

none_map : {X Y : Type 0} (f : X → Y) (xs : List X) (n : ℕ) → length xs ≤ n → slice_get (map f xs) n ≡ None
none_map f [] n h = refl
none_map f (y ∷ xs) zero h = absurd (omega arith)
none_map f (y ∷ xs) (suc n) h = none_map f xs n (omega arith)

pub variables_here : (t : Typed) (n : ℕ) (x : Vec DeclaredVariable Global) → n < length t.variables.items → x ≡ get_or t.variables.items n x → map declared_variable_of x.items ≡ variables_of_block (program_of t) n
variables_here t n x h e =
    sym (ap (λ o. unwrap_or o []) (at_map (λ (b : Vec DeclaredVariable Global). map declared_variable_of b.items) t.variables.items n x h e))

pub variables_nowhere : (t : Typed) (n : ℕ) → length t.variables.items ≤ n → [] ≡ variables_of_block (program_of t) n
variables_nowhere t n h =
    sym (ap (λ o. unwrap_or o []) (none_map (λ (b : Vec DeclaredVariable Global). map declared_variable_of b.items) t.variables.items n h))
