-- What each step of the start gives, by what is known of it.
use Rattle.std.proofs.Common.{◌≡◌, ℕ, zero, suc, ◌+◌, ◌-◌, ◌<◌, Bool, true, false, List, [], ◌∷◌, ◌++◌, length, ℤ, map, drop, get_or, refl, sym, ap, ◌∙◌, append_assoc, append-nil, add-one, arith}
use Rattle.std.specs.Prelude.{slice_get, unwrap_or, if◌then◌else◌}
use Rattle.std.proofs.lemmas.List.{length-map}
use Rattle.pli_typing.specs.declared.typed.Bounds.{Bounds}
use Rattle.pli_typing.specs.declared.typed.Leaf.{Leaf}
use Rattle.pli_typing.specs.declared.statement.Procedure.{Procedure}
use Rattle.pli_typing.specs.TypedTree as Y
use Rattle.pli_typing.specs.TypedView.{bounds_of, leaf_of}
use Rattle.pli_typing.specs.TypedStatementView.{procedure_of}
use Rattle.pli_meaning.specs.DeclaredShapes.{variables_of_block}
use Rattle.pli_coding.specs.Assembly.{Datum, Code}
use Rattle.pli_coding.specs.Environments.{Environment, no_declaration}
use Rattle.pli_coding.specs.Locating.{needs_number_word, referred_bounds, table_number}
use Rattle.pli_coding.specs.Images.{lower_filled, main_called, number_if, static_if, statics_code, statics_of_block}
use Rattle.rv_address.specs.declared.environment.Environment.{Environment as EnvironmentHeld}
use Rattle.rv_address.specs.Around.{environment_of}
use Rattle.rv_start.specs.Pieces.{declared_at, entry_called, first_filled, last_filled, lower_given, lower_placed, static_given, static_with, variable_statics}

-- ---- the main procedure

pub main_there : (xs : List Procedure) (x : Procedure) (code after : Code) → 0 < length xs → x ≡ get_or xs 0 x → after ≡ code ++ entry_called x.block.head.number → after ≡ code ++ main_called (map procedure_of xs)
main_there [] x code after h e is = absurd (omega arith)
main_there (y ∷ xs) x code after h e is = is ∙ ap (λ (p : Procedure). code ++ entry_called p.block.head.number) e

pub main_nowhere : (xs : List Procedure) (code : Code) → length xs ≡ 0 → code ≡ code ++ main_called (map procedure_of xs)
main_nowhere [] code h = sym (append-nil code)
main_nowhere (x ∷ xs) code h = absurd (omega arith)

-- ---- one STATIC variable

static_is : (e : EnvironmentHeld) (block index : ℕ) (d : Y.DeclaredVariable) (c : Y.StorageClass) → static_given (table_number (environment_of e) d) block index d c ≡ static_if (environment_of e) block index d c
unfolding static_with
static_is e block index d Y.StaticClass = refl
static_is e block index d Y.AutomaticClass = refl
static_is e block index d Y.ParameterClass = refl
static_is e block index d Y.BasedClass = refl
static_is e block index d Y.ControlledClass = refl

pub static_here : (code after : Code) (e : EnvironmentHeld) (block index n : ℕ) (d : Y.DeclaredVariable) → d ≡ declared_at (environment_of e) block index → n ≡ table_number (environment_of e) (declared_at (environment_of e) block index) → after ≡ code ++ static_given n block index d d.class
    → after ≡ code ++ static_if (environment_of e) block index (declared_at (environment_of e) block index) (declared_at (environment_of e) block index).class
static_here code after e block index n d is s h =
    let there : Y.DeclaredVariable = declared_at (environment_of e) block index in
    h
    ∙ ap (λ m. code ++ static_given m block index d d.class) s
    ∙ ap (λ (x : Y.DeclaredVariable). code ++ static_given (table_number (environment_of e) there) block index x x.class) is
    ∙ ap (λ u. code ++ u) (static_is e block index there there.class)

-- ---- a signature that is completed

pub place_named : (code after : Code) (n block index : ℕ) (d e : Datum) (z : ℤ) → d ≡ e → after ≡ code ++ lower_placed n block index d z → after ≡ code ++ lower_placed n block index e z
place_named code after n block index d e z is h = h ∙ ap (λ x. code ++ lower_placed n block index x z) is

pub first_there : (bs : List Bounds) (b : Bounds) (code after : Code) (n block index leaf : ℕ) → 0 < length bs → b ≡ get_or bs 0 b → after ≡ code ++ lower_given n block index leaf (bounds_of b).lower → after ≡ code ++ first_filled n block index leaf (map bounds_of bs)
first_there [] b code after n block index leaf h e is = absurd (omega arith)
first_there (c ∷ bs) b code after n block index leaf h e is = is ∙ ap (λ (z : Bounds). code ++ lower_given n block index leaf (bounds_of z).lower) e

pub first_nowhere : (bs : List Bounds) (code : Code) (n block index leaf : ℕ) → length bs ≡ 0 → code ≡ code ++ first_filled n block index leaf (map bounds_of bs)
first_nowhere [] code n block index leaf h = sym (append-nil code)
first_nowhere (b ∷ bs) code n block index leaf h = absurd (omega arith)

referred_last : (xs : List Leaf) (x : Leaf) (n : ℕ) → n + 1 ≡ length xs → x ≡ get_or xs n x → referred_bounds (map leaf_of xs) ≡ map bounds_of x.bounds.items
referred_last [] x n h e = absurd (omega arith)
referred_last (y ∷ []) x zero h e = ap (λ (z : Leaf). map bounds_of z.bounds.items) (sym e)
referred_last (y ∷ []) x (suc n) h e = absurd (omega arith)
referred_last (y ∷ z ∷ xs) x zero h e = absurd (omega arith)
referred_last (y ∷ z ∷ xs) x (suc n) h e = referred_last (z ∷ xs) x n (omega arith) e

pub last_there : (xs : List Leaf) (x : Leaf) (last : ℕ) (code after : Code) (n block index : ℕ) → last + 1 ≡ length xs → x ≡ get_or xs last x → after ≡ code ++ first_filled n block index last (map bounds_of x.bounds.items) → after ≡ code ++ last_filled n block index (map leaf_of xs)
last_there xs x last code after n block index h e is =
    let place : last ≡ length (map leaf_of xs) - 1 = omega (arith, length-map xs leaf_of, h) in
    is
    ∙ ap (λ bs. code ++ first_filled n block index last bs) (sym (referred_last xs x last h e))
    ∙ ap (λ m. code ++ first_filled n block index m (referred_bounds (map leaf_of xs))) place

pub last_nowhere : (xs : List Leaf) (code : Code) (n block index : ℕ) → length xs ≡ 0 → code ≡ code ++ last_filled n block index (map leaf_of xs)
last_nowhere [] code n block index h = sym (append-nil code)
last_nowhere (x ∷ xs) code n block index h = absurd (omega arith)

lower_is : (e : Environment) (block index : ℕ) (d : Y.DeclaredVariable) (lower upper : Y.Extent) (bs : List Y.Bounds) → first_filled (table_number e d) block index (length d.leaves - 1) (record { lower = lower; upper = upper } ∷ bs) ≡ lower_filled e block index d (record { lower = lower; upper = upper } ∷ bs)
unfolding lower_placed
lower_is e block index d (Y.ConstantExtent z) upper bs = refl
lower_is e block index d Y.StarExtent upper bs = refl
lower_is e block index d Y.ReferExtent upper bs = refl
lower_is e block index d (Y.EvaluatedExtent n) upper bs = refl

filled_is : (e : Environment) (block index : ℕ) (d : Y.DeclaredVariable) (bs : List Y.Bounds) → first_filled (table_number e d) block index (length d.leaves - 1) bs ≡ lower_filled e block index d bs
filled_is e block index d [] = refl
filled_is e block index d (b ∷ bs) = lower_is e block index d b.lower b.upper bs

needed : (e : Environment) (block index : ℕ) (d : Y.DeclaredVariable) → needs_number_word d ≡ true → last_filled (table_number e d) block index d.leaves ≡ number_if e block index d
needed e block index d t = filled_is e block index d (referred_bounds d.leaves) ∙ ap (λ (b : Bool). if b then lower_filled e block index d (referred_bounds d.leaves) else []) (sym t)

pub number_there : (code after : Code) (e : Environment) (block index n : ℕ) (d : Y.DeclaredVariable) → d ≡ declared_at e block index → needs_number_word d ≡ true → n ≡ table_number e (declared_at e block index) → after ≡ code ++ last_filled n block index d.leaves
    → after ≡ code ++ number_if e block index (declared_at e block index)
number_there code after e block index n d is t s h =
    h
    ∙ ap (λ m. code ++ last_filled m block index d.leaves) s
    ∙ ap (λ (x : Y.DeclaredVariable). code ++ last_filled (table_number e (declared_at e block index)) block index x.leaves) is
    ∙ ap (λ u. code ++ u) (needed e block index (declared_at e block index) (sym (ap needs_number_word is) ∙ t))

pub number_nowhere : (code : Code) (e : Environment) (block index : ℕ) (d : Y.DeclaredVariable) → d ≡ declared_at e block index → needs_number_word d ≡ false → code ≡ code ++ number_if e block index (declared_at e block index)
number_nowhere code e block index d is t =
    sym (append-nil code) ∙ ap (λ (b : Bool). code ++ (if b then lower_filled e block index (declared_at e block index) (referred_bounds (declared_at e block index).leaves) else [])) (sym (sym (ap needs_number_word is) ∙ t))

-- ---- variable after variable, and block after block

from_here : {X : Type 0} (xs : List X) (i : ℕ) (blank : X) → i < length xs → drop i xs ≡ unwrap_or (slice_get xs i) blank ∷ drop (suc i) xs
from_here [] i blank h = absurd (omega arith)
from_here (x ∷ xs) zero blank h = refl
from_here (x ∷ xs) (suc i) blank h = from_here xs i blank (omega (arith, h))

pub from_place : {X : Type 0} (xs : List X) (i : ℕ) (blank : X) → i < length xs → drop i xs ≡ unwrap_or (slice_get xs i) blank ∷ drop (i + 1) xs
from_place xs i blank h = from_here xs i blank h ∙ ap (λ n. unwrap_or (slice_get xs i) blank ∷ drop n xs) (sym (add-one i))

pub next_variable : (e : Environment) (block i : ℕ) (code after target : Code) → i < length (variables_of_block e.program block) → after ≡ code ++ variable_statics e block i
    → code ++ statics_of_block e block i (drop i (variables_of_block e.program block)) ≡ target → after ++ statics_of_block e block (i + 1) (drop (i + 1) (variables_of_block e.program block)) ≡ target
unfolding variable_statics
next_variable e block i code after target h a is =
    let ds : List Y.DeclaredVariable = variables_of_block e.program block in
    let d : Y.DeclaredVariable = declared_at e block i in
    let rest : Code = statics_of_block e block (i + 1) (drop (i + 1) ds) in
    ap (λ u. u ++ rest) a
    ∙ append_assoc code (static_if e block i d d.class ++ number_if e block i d) rest
    ∙ ap (λ u. code ++ u) (append_assoc (static_if e block i d d.class) (number_if e block i d) rest)
    ∙ ap (λ n. code ++ (static_if e block i d d.class ++ (number_if e block i d ++ statics_of_block e block n (drop (i + 1) ds)))) (add-one i)
    ∙ ap (λ u. code ++ statics_of_block e block i u) (sym (from_place ds i no_declaration h))
    ∙ is

pub next_block : (e : Environment) (i : ℕ) (code after target : Code) → i < length e.program.variables → after ≡ code ++ statics_of_block e i 0 (variables_of_block e.program i)
    → code ++ statics_code e i (drop i e.program.variables) ≡ target → after ++ statics_code e (i + 1) (drop (i + 1) e.program.variables) ≡ target
next_block e i code after target h a is =
    let all : List (List Y.DeclaredVariable) = e.program.variables in
    let here : Code = statics_of_block e i 0 (variables_of_block e.program i) in
    ap (λ u. u ++ statics_code e (i + 1) (drop (i + 1) all)) a
    ∙ append_assoc code here (statics_code e (i + 1) (drop (i + 1) all))
    ∙ ap (λ n. code ++ (here ++ statics_code e n (drop (i + 1) all))) (add-one i)
    ∙ ap (λ u. code ++ statics_code e i u) (sym (from_place all i [] h))
    ∙ is
