-- The table as it grows, and numbers by it.
use Rattle.std.proofs.Common.{◌≡◌, ◌≤◌, ℕ, zero, suc, ◌+◌, ◌<◌, Bool, true, false, List, [], ◌∷◌, ◌++◌, map, length, drop, get_or, Option, Some, refl, sym, ap, ◌∙◌, append_assoc, append-nil, arith}
use Rattle.std.specs.Prelude.{Vec, if◌then◌else◌, slice_get, unwrap_or}
use Rattle.std.specs.List.{flat_map}
use Rattle.std.specs.declared.alloc.Global.{Global}
use Rattle.std.proofs.lemmas.List.{map_push, length-map}
use Rattle.std.proofs.Math.Logic.{∥∥₁_elim}
use Rattle.std.proofs.Props.{props}
use Rattle.rv_meaning.specs.Tables.{TableSignature, signature_words}
use Rattle.pli_language.specs.Keywords.{same_bytes}
use Rattle.pli_typing.specs.declared.typed.DeclaredVariable.{DeclaredVariable}
use Rattle.pli_typing.specs.TypedTree as Y
use Rattle.pli_typing.specs.TypedStatementView.{declared_variable_of}
use Rattle.pli_coding.specs.SignatureTable.{number_in_table, signature_of, table_of, with_signature, with_signatures}
use Rattle.rv_address.specs.Rows.{items_of, number_rows, numbers_in, numbers_in_words, numbers_of, place_in, rows_of, with_row, with_rows, with_words, words_of}
use Rattle.pli_coding.specs.Environments.{no_declaration}
use Rattle.rv_address.proofs.Declared.{at_map, shown_from}

-- ---- the place of a signature

pub this_place : (words : List ℕ) (xs : List (Vec ℕ Global)) (i : ℕ) (x : Vec ℕ Global) (place target : ℕ) → i < length xs → x ≡ get_or xs i x → same_bytes words x.items ≡ true → place + place_in words (map items_of (drop i xs)) ≡ target → place ≡ target
this_place words xs i x place target h e s is =
    let at : place_in words (map items_of (drop i xs)) ≡ 0 = ap (place_in words) (shown_from items_of xs i x h e) ∙ ap (λ t. if t then 0 else suc (place_in words (map items_of (drop (i + 1) xs)))) s in
    omega arith

pub next_place : (words : List ℕ) (xs : List (Vec ℕ Global)) (i : ℕ) (x : Vec ℕ Global) (place next target : ℕ) → i < length xs → x ≡ get_or xs i x → same_bytes words x.items ≡ false → next ≡ place + 1 → place + place_in words (map items_of (drop i xs)) ≡ target → next + place_in words (map items_of (drop (i + 1) xs)) ≡ target
next_place words xs i x place next target h e s n is =
    let at : place_in words (map items_of (drop i xs)) ≡ suc (place_in words (map items_of (drop (i + 1) xs))) = ap (place_in words) (shown_from items_of xs i x h e) ∙ ap (λ t. if t then 0 else suc (place_in words (map items_of (drop (i + 1) xs)))) s in
    omega arith

-- ---- one signature more

there_by : (t : Bool) (w : List ℕ) (ws with : List (List ℕ)) (n k : ℕ) → n ≡ (if t then 0 else suc k) → n < suc (length ws) → (k < length ws → ws ≡ with) → (w ∷ ws) ≡ (if t then w ∷ ws else w ∷ with)
there_by true w ws with n k e h more = refl
there_by false w ws with n k e h more = ap (λ u. w ∷ u) (more (omega arith))

there : (words : List ℕ) (ws : List (List ℕ)) → place_in words ws < length ws → ws ≡ with_words words ws
there words [] h = absurd (omega arith)
there words (w ∷ ws) h = there_by (same_bytes words w) w ws (with_words words ws) (place_in words (w ∷ ws)) (place_in words ws) refl h (there words ws)

nowhere_by : (t : Bool) (w words : List ℕ) (ws with : List (List ℕ)) (n k : ℕ) → n ≡ (if t then 0 else suc k) → suc (length ws) ≤ n → (length ws ≤ k → ws ++ words ∷ [] ≡ with) → w ∷ (ws ++ words ∷ []) ≡ (if t then w ∷ ws else w ∷ with)
nowhere_by true w words ws with n k e h more = absurd (omega arith)
nowhere_by false w words ws with n k e h more = ap (λ u. w ∷ u) (more (omega arith))

nowhere : (words : List ℕ) (ws : List (List ℕ)) → length ws ≤ place_in words ws → ws ++ words ∷ [] ≡ with_words words ws
nowhere words [] h = refl
nowhere words (w ∷ ws) h = nowhere_by (same_bytes words w) w words ws (with_words words ws) (place_in words (w ∷ ws)) (place_in words ws) refl h (nowhere words ws)

pub already_there : (words : List ℕ) (xs : List (Vec ℕ Global)) (n : ℕ) → n ≡ place_in words (map items_of xs) → n < length xs → map items_of xs ≡ with_words words (map items_of xs)
already_there words xs n e h =
    let k : length (map items_of xs) ≡ length xs = length-map xs items_of in
    there words (map items_of xs) (omega arith)

pub not_there : (x : Vec ℕ Global) (xs ys : List (Vec ℕ Global)) (n : ℕ) → n ≡ place_in x.items (map items_of xs) → length xs ≤ n → ys ≡ xs ++ x ∷ [] → map items_of ys ≡ with_words x.items (map items_of xs)
not_there x xs ys n e h p =
    let k : length (map items_of xs) ≡ length xs = length-map xs items_of in
    ap (map items_of) p ∙ map_push items_of xs x ∙ nowhere x.items (map items_of xs) (omega arith)

-- ---- all signatures

pub next_variable : (xs : List DeclaredVariable) (i : ℕ) (x : DeclaredVariable) (words : List ℕ) (table more target : List (List ℕ)) → i < length xs → x ≡ get_or xs i x → words ≡ signature_words (signature_of (declared_variable_of x)) → more ≡ with_words words table
    → with_row (map declared_variable_of (drop i xs)) table ≡ target → with_row (map declared_variable_of (drop (i + 1) xs)) more ≡ target
next_variable xs i x words table more target h e w m is =
    ap (with_row (map declared_variable_of (drop (i + 1) xs))) (m ∙ ap (λ u. with_words u table) w)
    ∙ ap (λ ds. with_row ds table) (sym (shown_from declared_variable_of xs i x h e))
    ∙ is

pub next_row : (xs : List (Vec DeclaredVariable Global)) (i : ℕ) (x : Vec DeclaredVariable Global) (table more target : List (List ℕ)) → i < length xs → x ≡ get_or xs i x → more ≡ with_row (map declared_variable_of x.items) table
    → with_rows (rows_of (drop i xs)) table ≡ target → with_rows (rows_of (drop (i + 1) xs)) more ≡ target
next_row xs i x table more target h e m is =
    ap (with_rows (rows_of (drop (i + 1) xs))) m
    ∙ ap (λ ds. with_rows ds table) (sym (shown_from (λ (b : Vec DeclaredVariable Global). map declared_variable_of b.items) xs i x h e))
    ∙ is

words_by : (t : Bool) (g h : TableSignature) (hs : List TableSignature) → with_words (signature_words g) (words_of hs) ≡ words_of (with_signature g hs)
    → (if t then signature_words h ∷ words_of hs else signature_words h ∷ with_words (signature_words g) (words_of hs)) ≡ words_of (if t then h ∷ hs else h ∷ with_signature g hs)
words_by true g h hs more = refl
words_by false g h hs more = ap (λ u. signature_words h ∷ u) more

words_with : (g : TableSignature) (table : List TableSignature) → with_words (signature_words g) (words_of table) ≡ words_of (with_signature g table)
words_with g [] = refl
words_with g (h ∷ hs) = words_by (same_bytes (signature_words g) (signature_words h)) g h hs (words_with g hs)

row_with : (ds : List Y.DeclaredVariable) (table : List TableSignature) → with_row ds (words_of table) ≡ words_of (with_signatures ds table)
row_with [] table = refl
row_with (d ∷ ds) table = ap (with_row ds) (words_with (signature_of d) table) ∙ row_with ds (with_signature (signature_of d) table)

signatures_append : (ds es : List Y.DeclaredVariable) (table : List TableSignature) → with_signatures (ds ++ es) table ≡ with_signatures es (with_signatures ds table)
signatures_append [] es table = refl
signatures_append (d ∷ ds) es table = signatures_append ds es (with_signature (signature_of d) table)

rows_with : (rows : List (List Y.DeclaredVariable)) (table : List TableSignature) → with_rows rows (words_of table) ≡ words_of (with_signatures (flat_map (λ ds. ds) rows) table)
rows_with [] table = refl
rows_with (ds ∷ rows) table =
    ap (with_rows rows) (row_with ds table)
    ∙ rows_with rows (with_signatures ds table)
    ∙ ap words_of (sym (signatures_append ds (flat_map (λ es. es) rows) table))

pub all_rows : (rows : List (List Y.DeclaredVariable)) (table : List (List ℕ)) → table ≡ with_rows rows [] → table ≡ words_of (with_signatures (flat_map (λ ds. ds) rows) [])
all_rows rows table e = e ∙ rows_with rows []

-- ---- numbers

pub next_number : (table : List (List ℕ)) (xs : List DeclaredVariable) (i : ℕ) (x : DeclaredVariable) (words done more target : List ℕ) (n : ℕ) → i < length xs → x ≡ get_or xs i x → words ≡ signature_words (signature_of (declared_variable_of x)) → n ≡ place_in words table → more ≡ done ++ n ∷ []
    → done ++ numbers_in_words table (map declared_variable_of (drop i xs)) ≡ target → more ++ numbers_in_words table (map declared_variable_of (drop (i + 1) xs)) ≡ target
next_number table xs i x words done more target n h e w p m is =
    let rest : List ℕ = numbers_in_words table (map declared_variable_of (drop (i + 1) xs)) in
    ap (λ u. u ++ rest) m
    ∙ append_assoc done (n ∷ []) rest
    ∙ ap (λ k. done ++ (k ∷ rest)) (p ∙ ap (λ u. place_in u table) w)
    ∙ ap (λ ds. done ++ numbers_in_words table ds) (sym (shown_from declared_variable_of xs i x h e))
    ∙ is

pub no_more : (done target : List ℕ) → done ++ [] ≡ target → done ≡ target
no_more done target e = sym (append-nil done) ∙ e

pub next_numbers : (table : List (List ℕ)) (xs : List (Vec DeclaredVariable Global)) (i : ℕ) (x : Vec DeclaredVariable Global) (row : Vec ℕ Global) (done more : List (Vec ℕ Global)) (target : List (List ℕ)) → i < length xs → x ≡ get_or xs i x → row.items ≡ numbers_in_words table (map declared_variable_of x.items) → more ≡ done ++ row ∷ []
    → map items_of done ++ number_rows table (rows_of (drop i xs)) ≡ target → map items_of more ++ number_rows table (rows_of (drop (i + 1) xs)) ≡ target
next_numbers table xs i x row done more target h e r m is =
    let rest : List (List ℕ) = number_rows table (rows_of (drop (i + 1) xs)) in
    ap (λ u. map items_of u ++ rest) m
    ∙ ap (λ u. u ++ rest) (map_push items_of done row)
    ∙ append_assoc (map items_of done) (row.items ∷ []) rest
    ∙ ap (λ u. map items_of done ++ (u ∷ rest)) r
    ∙ ap (λ ds. map items_of done ++ number_rows table ds) (sym (shown_from (λ (b : Vec DeclaredVariable Global). map declared_variable_of b.items) xs i x h e))
    ∙ is

pub no_more_rows : (done target : List (List ℕ)) → done ++ [] ≡ target → done ≡ target
no_more_rows done target e = sym (append-nil done) ∙ e

place_of_signature : (g : TableSignature) (table : List TableSignature) → place_in (signature_words g) (words_of table) ≡ number_in_table g table
place_of_signature g [] = refl
place_of_signature g (h ∷ hs) = ap (λ n. if same_bytes (signature_words g) (signature_words h) then 0 else suc n) (place_of_signature g hs)

row_of_numbers : (ds : List Y.DeclaredVariable) (table : List TableSignature) → numbers_in_words (words_of table) ds ≡ numbers_in table ds
row_of_numbers [] table = refl
row_of_numbers (d ∷ ds) table = ap (λ n. n ∷ numbers_in_words (words_of table) ds) (place_of_signature (signature_of d) table) ∙ ap (λ u. number_in_table (signature_of d) table ∷ u) (row_of_numbers ds table)

rows_of_numbers : (rows : List (List Y.DeclaredVariable)) (table : List TableSignature) → number_rows (words_of table) rows ≡ map (numbers_in table) rows
rows_of_numbers [] table = refl
rows_of_numbers (ds ∷ rows) table = ap (λ u. u ∷ number_rows (words_of table) rows) (row_of_numbers ds table) ∙ ap (λ u. numbers_in table ds ∷ u) (rows_of_numbers rows table)

pub numbers_are : (program : Y.Program) (table : List (List ℕ)) (rows : List (List ℕ)) → table ≡ words_of (table_of program) → rows ≡ number_rows table program.variables → rows ≡ numbers_of program
numbers_are program table rows t r = r ∙ ap (λ u. number_rows u program.variables) t ∙ rows_of_numbers program.variables (table_of program)

-- ---- what is kept

pub truly : (vs ws : List (List ℕ)) → ∥ vs ≡ ws ∥₁ → vs ≡ ws
truly vs ws h = ∥∥₁_elim h (hlevel props) (λ e. e)

at_place : {X : Type 0} (xs : List X) (n : ℕ) (x : X) → n < length xs → x ≡ get_or xs n x → slice_get xs n ≡ Some x
at_place [] n x h e = absurd (omega arith)
at_place (y ∷ xs) zero x h e = ap Some (sym e)
at_place (y ∷ xs) (suc n) x h e = at_place xs n x (omega arith) e

unwrapped : {X : Type 0} (o : Option X) (x blank : X) → o ≡ Some x → x ≡ unwrap_or o blank
unwrapped o x blank e = sym (ap (λ p. unwrap_or p blank) e)

in_row : (table : List TableSignature) (ds : List Y.DeclaredVariable) (i n : ℕ) → slice_get (numbers_in table ds) i ≡ Some n → n ≡ number_in_table (signature_of (unwrap_or (slice_get ds i) no_declaration)) table
in_row table [] i n e = cc
in_row table (d ∷ ds) zero n e = unwrapped (slice_get (numbers_in table (d ∷ ds)) 0) n 0 e
in_row table (d ∷ ds) (suc i) n e = in_row table ds i n e

in_rows : (table : List TableSignature) (rows : List (List Y.DeclaredVariable)) (b i n : ℕ) (row : List ℕ) → slice_get (map (numbers_in table) rows) b ≡ Some row → slice_get row i ≡ Some n → n ≡ number_in_table (signature_of (unwrap_or (slice_get (unwrap_or (slice_get rows b) []) i) no_declaration)) table
in_rows table [] b i n row e f = cc
in_rows table (ds ∷ rows) zero i n row e f = in_row table ds i n (ap (λ (r : List ℕ). slice_get r i) (sym (unwrapped (slice_get (map (numbers_in table) (ds ∷ rows)) 0) row [] e)) ∙ f)
in_rows table (ds ∷ rows) (suc b) i n row e f = in_rows table rows b i n row e f

pub number_here : (program : Y.Program) (rows : List (Vec ℕ Global)) (b i n : ℕ) (row : Vec ℕ Global) → map items_of rows ≡ numbers_of program → b < length rows → row ≡ get_or rows b row → i < length row.items → n ≡ get_or row.items i n
    → n ≡ number_in_table (signature_of (unwrap_or (slice_get (unwrap_or (slice_get program.variables b) []) i) no_declaration)) (table_of program)
number_here program rows b i n row all h e k f =
    in_rows (table_of program) program.variables b i n row.items (ap (λ (us : List (List ℕ)). slice_get us b) (sym all) ∙ at_map items_of rows b row h e) (at_place row.items i n k f)
