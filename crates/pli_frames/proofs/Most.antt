-- The most of a list, found from its front.
use Rattle.std.proofs.Common.{◌≡◌, ℕ, ◌+◌, ◌<◌, List, ◌∷◌, map, length, drop, get_or, refl, sym, ap, ◌∙◌, arith}
use Rattle.std.specs.Prelude.{max}
use Rattle.std.proofs.lemmas.List.{drop_more}
use Rattle.pli_typing.specs.declared.typed.Allocation.{Allocation}
use Rattle.pli_typing.specs.declared.typed.Freeing.{Freeing}
use Rattle.pli_typing.specs.declared.typed.PutItem.{PutItem}
use Rattle.pli_typing.specs.declared.typed.PutPair.{PutPair}
use Rattle.pli_typing.specs.declared.typed.GetItem.{GetItem}
use Rattle.pli_typing.specs.declared.typed.GetPair.{GetPair}
use Rattle.pli_typing.specs.declared.typed.Evaluation.{Evaluation}
use Rattle.pli_typing.specs.declared.typed.DeclaredVariable.{DeclaredVariable}
use Rattle.pli_typing.specs.TypedStatementView.{allocation_of, freeing_of, put_item_of, put_pair_of, get_item_of}
use Rattle.pli_typing.specs.TypedStatementView.{get_pair_of}
use Rattle.pli_typing.specs.TypedStatementView.{evaluation_of, declared_variable_of}
use Rattle.pli_typing.specs.TypedView.{number_of}
use Rattle.pli_coding.specs.Environments.{Taken, none_taken, most_taken}
use Rattle.pli_coding.specs.Temporaries.{number_takes}
use Rattle.pli_coding.specs.Allocating.{allocation_takes, allocations_take, freeing_takes, freeings_take}
use Rattle.pli_coding.specs.Entries.{variable_takes, variables_take}
use Rattle.pli_coding.specs.Extents.{evaluations_take}
use Rattle.pli_coding.specs.Streams.{put_item_takes, put_items_take, put_takes, get_item_takes, get_items_take}
use Rattle.pli_coding.specs.Streams.{get_takes}

-- the element at a place and those behind it
pub shown_from : {X Y : Type 0} (f : X → Y) (xs : List X) (i : ℕ) (x : X) → i < length xs → x ≡ get_or xs i x → map f (drop i xs) ≡ f x ∷ map f (drop (i + 1) xs)
shown_from f xs i x h e = ap (map f) (drop_more xs i x h ∙ ap (λ y. y ∷ drop (i + 1) xs) (sym e))

-- ---- the most of what is taken

more_of : (now here rest : ℕ) → max (max now here) rest ≡ max now (max here rest)
more_of now here rest = omega arith

none_of : (n : ℕ) → max n 0 ≡ n
none_of n = omega arith

abbrev taken_with : (registers words : ℕ) → Taken
taken_with registers words = record { registers = registers; words = words }

taken_alike : (a b c d : ℕ) → a ≡ b → c ≡ d → taken_with a c ≡ taken_with b d
taken_alike a b c d r w = ap (λ n. taken_with n c) r ∙ ap (λ n. taken_with b n) w

pub one_more : (now here rest : Taken) → most_taken (most_taken now here) rest ≡ most_taken now (most_taken here rest)
one_more now here rest =
    taken_alike _ _ _ _ (more_of now.registers here.registers rest.registers) (more_of now.words here.words rest.words)

pub none_left : (t : Taken) → most_taken t none_taken ≡ t
none_left t = taken_alike _ _ _ _ (none_of t.registers) (none_of t.words)

none_before : (n : ℕ) → max 0 n ≡ n
none_before n = omega arith

turned_of : (now here rest : ℕ) → max now (max here rest) ≡ max (max now rest) here
turned_of now here rest = omega arith

pub none_first : (t : Taken) → most_taken none_taken t ≡ t
none_first t = taken_alike _ _ _ _ (none_before t.registers) (none_before t.words)

pub most_more : (now here rest : Taken) → most_taken now (most_taken here rest) ≡ most_taken (most_taken now here) rest
most_more now here rest = sym (one_more now here rest)

-- the last of two first
pub most_turned : (now here rest : Taken)
    → most_taken now (most_taken here rest) ≡ most_taken (most_taken now rest) here
most_turned now here rest =
    taken_alike _ _ _ _ (turned_of now.registers here.registers rest.registers)
    (turned_of now.words here.words rest.words)

next_most : {X Y : Type 0} (f : X → Y) (all : List Y → Taken) (xs : List X) (i : ℕ) (x : X)
    (now here next target : Taken) → i < length xs → x ≡ get_or xs i x
    → all (f x ∷ map f (drop (i + 1) xs)) ≡ most_taken here (all (map f (drop (i + 1) xs)))
    → next ≡ most_taken now here → most_taken now (all (map f (drop i xs))) ≡ target
    → most_taken next (all (map f (drop (i + 1) xs))) ≡ target
next_most f all xs i x now here next target h e s n is =
    ap (λ k. most_taken k (all (map f (drop (i + 1) xs)))) n
    ∙ one_more now here (all (map f (drop (i + 1) xs)))
    ∙ ap (λ k. most_taken now k) (sym s ∙ ap all (sym (shown_from f xs i x h e)))
    ∙ is

pub next_allocation : (k : Taken) (xs : List Allocation) (i : ℕ) (x : Allocation) (now next target : Taken)
    → i < length xs
    → x ≡ get_or xs i x → next ≡ most_taken now (allocation_takes k (allocation_of x))
    → most_taken now (allocations_take k (map allocation_of (drop i xs))) ≡ target
    → most_taken next (allocations_take k (map allocation_of (drop (i + 1) xs))) ≡ target
next_allocation k xs i x now next target h e n is = next_most allocation_of
    (allocations_take k) xs i x now _ next target h e refl n is

pub next_freeing : (k : Taken) (xs : List Freeing) (i : ℕ) (x : Freeing) (now next target : Taken) → i < length xs
    → x ≡ get_or xs i x → next ≡ most_taken now (freeing_takes k (freeing_of x))
    → most_taken now (freeings_take k (map freeing_of (drop i xs))) ≡ target
    → most_taken next (freeings_take k (map freeing_of (drop (i + 1) xs))) ≡ target
next_freeing k xs i x now next target h e n is = next_most freeing_of
    (freeings_take k) xs i x now _ next target h e refl n is

pub next_put_item : (k : Taken) (xs : List PutItem) (i : ℕ) (x : PutItem) (now next target : Taken) → i < length xs
    → x ≡ get_or xs i x → next ≡ most_taken now (put_item_takes k (put_item_of x))
    → most_taken now (put_items_take k (map put_item_of (drop i xs))) ≡ target
    → most_taken next (put_items_take k (map put_item_of (drop (i + 1) xs))) ≡ target
next_put_item k xs i x now next target h e n is = next_most put_item_of
    (put_items_take k) xs i x now _ next target h e refl n is

pub next_put_pair : (k : Taken) (xs : List PutPair) (i : ℕ) (x : PutPair) (now next target : Taken) → i < length xs
    → x ≡ get_or xs i x → next ≡ most_taken now (put_items_take k (map put_item_of x.items.items))
    → most_taken now (put_takes k (map put_pair_of (drop i xs))) ≡ target
    → most_taken next (put_takes k (map put_pair_of (drop (i + 1) xs))) ≡ target
next_put_pair k xs i x now next target h e n is = next_most put_pair_of
    (put_takes k) xs i x now _ next target h e refl n is

pub next_get_item : (k : Taken) (xs : List GetItem) (i : ℕ) (x : GetItem) (now next target : Taken) → i < length xs
    → x ≡ get_or xs i x → next ≡ most_taken now (get_item_takes k (get_item_of x))
    → most_taken now (get_items_take k (map get_item_of (drop i xs))) ≡ target
    → most_taken next (get_items_take k (map get_item_of (drop (i + 1) xs))) ≡ target
next_get_item k xs i x now next target h e n is = next_most get_item_of
    (get_items_take k) xs i x now _ next target h e refl n is

pub next_get_pair : (k : Taken) (xs : List GetPair) (i : ℕ) (x : GetPair) (now next target : Taken) → i < length xs
    → x ≡ get_or xs i x → next ≡ most_taken now (get_items_take k (map get_item_of x.items.items))
    → most_taken now (get_takes k (map get_pair_of (drop i xs))) ≡ target
    → most_taken next (get_takes k (map get_pair_of (drop (i + 1) xs))) ≡ target
next_get_pair k xs i x now next target h e n is = next_most get_pair_of
    (get_takes k) xs i x now _ next target h e refl n is

pub next_evaluation : (k : Taken) (xs : List Evaluation) (i : ℕ) (x : Evaluation) (now next target : Taken)
    → i < length xs
    → x ≡ get_or xs i x → next ≡ most_taken now (number_takes k (number_of x.value))
    → most_taken now (evaluations_take k (map evaluation_of (drop i xs))) ≡ target
    → most_taken next (evaluations_take k (map evaluation_of (drop (i + 1) xs))) ≡ target
next_evaluation k xs i x now next target h e n is = next_most evaluation_of
    (evaluations_take k) xs i x now _ next target h e refl n is

pub next_variable : (xs : List DeclaredVariable) (i : ℕ) (x : DeclaredVariable) (now next target : Taken)
    → i < length xs
    → x ≡ get_or xs i x → next ≡ most_taken now (variable_takes (declared_variable_of x))
    → most_taken now (variables_take (map declared_variable_of (drop i xs))) ≡ target
    → most_taken next (variables_take (map declared_variable_of (drop (i + 1) xs))) ≡ target
next_variable xs i x now next target h e n is =
    next_most declared_variable_of variables_take xs i x now _ next target h e refl n is
