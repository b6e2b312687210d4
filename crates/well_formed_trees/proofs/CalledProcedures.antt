-- A procedure that a name means is one of the typed tree, and the block that holds it stands around.
use Rattle.std.proofs.Common.{◌≡◌, ℕ, suc, ◌+◌, ◌-◌, ◌≤◌, ◌==◌, Bool, true, false, ◌||◌, List, [], ◌∷◌, ◌++◌, map}
use Rattle.std.proofs.Common.{length, Option, Some, None, if◌then◌else◌, refl, sym, ap, ◌∙◌, subst, arith}
use Rattle.std.specs.Prelude.{slice_get}
use Rattle.std.proofs.lemmas.Bool.{eqb-true}
use Rattle.pli_language.specs.Tree as T
use Rattle.pli_language.specs.Declarations.{Block, Declaration, ProcedureName}
use Rattle.pli_language.specs.Declaring.{same_place}
use Rattle.pli_typing.specs.TypedTree as Y
use Rattle.pli_typing.specs.Variables.{level_of_block, depth_of_block}
use Rattle.pli_typing.specs.Calls.{is_block_of, block_of_procedure, parameter_indices, result_type}
use Rattle.pli_typing.specs.SingleStatements.{first_or_none}
use Rattle.well_formed_trees.specs.Every.{Every}
use Rattle.well_formed_trees.specs.Surroundings.{Around, Table, Where, IsAround, head_of, procedure_numbered}
use Rattle.well_formed_trees.specs.Expressions.{IsProcedure}
use Rattle.well_formed_trees.specs.Spelled.{IsNamed}
use Rattle.well_formed_trees.proofs.Places.{same_some, every_at}
use Rattle.well_formed_trees.proofs.Parameters.{finds}
use Rattle.well_formed_trees.proofs.DeclaredOnce.{IsIn, at_head, at_block, at_declaration, only_one, spot_one}
use Rattle.well_formed_trees.proofs.DeclaredOnce.{same_place_self, total}
use Rattle.well_formed_trees.proofs.HeldStatements.{IsFrom}
use Rattle.well_formed_trees.proofs.HeadsHeld.{IsBlockOf, HeadHeld, BlockHolds, from_at, numbers_around}
use Rattle.well_formed_trees.proofs.HeadsHeld.{match_at, entry_at, IsTyped, has_number}
use Rattle.well_formed_trees.proofs.Facts.{Facts, IsSeen}
use Rattle.well_formed_trees.proofs.MeantVariables.{any_at, declares_none, is_around}

-- ---- by its place

head_one : (head : T.ProcedureHead) (b : Block) → is_block_of head b.head ≡ true → 1 ≤ at_block head.place b
head_one head b e = by b.head e where
  by : (o : Option T.ProcedureHead) → is_block_of head o ≡ true
      → 1 ≤ at_head head.place o + total (at_declaration head.place) b.declarations
  by None e = absurd (cc e)
  by (Some other) e =
      let a = spot_one (same_place head.place other.place) e in
      omega (arith, a)

number_of_head : (blocks : List Block) (program : Y.Program) (table : Table) → Facts blocks program table
    → (around : List ℕ) (head : T.ProcedureHead) (k : IsBlockOf blocks around head)
    → block_of_procedure blocks head ≡ k.number
number_of_head blocks program table facts around head k =
    let test : Block → Bool = λ b. is_block_of head b.head in
    let own : is_block_of head k.block.head ≡ true = ap (is_block_of head) k.has_head ∙ same_place_self head.place in
    let it = finds (λ (b : Block). is_block_of head b.head) blocks
    (any_at (λ (b : Block). is_block_of head b.head) blocks k.number k.block k.has_block own) in
    only_one (at_block head.place) blocks (facts.apart head.place) (block_of_procedure blocks head) k.number it.element
    k.block it.found k.has_block (head_one head it.element it.passes) (head_one head k.block own)

-- ---- the typed procedure

pub record Typed (blocks : List Block) (n : ℕ) (ps : List Y.Procedure) : Type 0 where
  pub p : Y.Procedure
  pub found : procedure_numbered n ps ≡ Some p
  pub from : IsFrom blocks p
  pub own : (head_of p.block).number ≡ n

pub typed_by : (blocks : List Block) (n : ℕ) (ps : List Y.Procedure) → Every (IsFrom blocks) ps → has_number n ps ≡ true
    → Typed blocks n ps
typed_by blocks n [] h e = absurd (cc e)
typed_by blocks n (p ∷ ps) h e = by ((head_of p.block).number == n) refl e (typed_by blocks n ps h.1) where
  by : (b : Bool) → ((head_of p.block).number == n) ≡ b → (b || has_number n ps) ≡ true
      → (has_number n ps ≡ true → Typed blocks n ps) → Typed blocks n (p ∷ ps)
  by true s e k = record {
    p = p;
    found = ap (λ b. if b then Some p else procedure_numbered n ps) s;
    from = h.0;
    own = eqb-true (head_of p.block).number n s;
  }
  by false s e k =
      let t = k e in
      record {
        p = t.p;
        found = ap (λ b. if b then Some p else procedure_numbered n ps) s ∙ t.found;
        from = t.from;
        own = t.own;
      }

-- ---- the entry

record HolderEntry (table : Table) (number holder : ℕ) (rest : List ℕ) : Type 0 where
  own : Around
  holder_around : Around
  outer : List Around
  entry : slice_get table number ≡ Some (own ∷ holder_around ∷ outer)
  holder_is : holder_around.number ≡ holder
  deep : 1 ≤ length rest

holder_entry : (table : Table) (number holder : ℕ) (rest : List ℕ) (e : List Around) → slice_get table number ≡ Some e
    → numbers_around e ≡ number ∷ holder ∷ rest → (holder ≡ 0 → ⊥) → HolderEntry table number holder rest
holder_entry table number holder rest [] f g z = absurd (cc g)
holder_entry table number holder rest (own ∷ []) f g z = absurd (z (second g)) where
  second : own.number ∷ 0 ∷ [] ≡ number ∷ holder ∷ rest → holder ≡ 0
  second e = cc e
holder_entry table number holder rest (own ∷ a ∷ outer) f g z = record {
  own = own;
  holder_around = a;
  outer = outer;
  entry = f;
  holder_is = second g;
  deep = subst (λ l. 1 ≤ length l) (third g) (some (map (λ (a : Around). a.number) outer));
} where
  second : own.number ∷ a.number ∷ (map (λ (a : Around). a.number) outer ++ 0 ∷ []) ≡ number ∷ holder ∷ rest
      → a.number ≡ holder
  second e = cc e

  third : own.number ∷ a.number ∷ (map (λ (a : Around). a.number) outer ++ 0 ∷ []) ≡ number ∷ holder ∷ rest
      → map (λ (a : Around). a.number) outer ++ 0 ∷ [] ≡ rest
  third e = cc e

  some : (ns : List ℕ) → 1 ≤ length (ns ++ 0 ∷ [])
  some [] = omega arith
  some (n ∷ ns) = omega arith

-- ---- all of it

pub record IsCalled (blocks : List Block) (w : Where) (holder : ℕ) (head : T.ProcedureHead) : Type 0 where
  pub number : ℕ
  pub number_is : block_of_procedure blocks head ≡ number
  pub block : Block
  pub has_block : slice_get blocks number ≡ Some block
  pub has_head : block.head ≡ Some head
  pub named : IsNamed head.labels
  pub around : List ℕ
  pub around_is : block.around ≡ number ∷ around
  pub holder_block : Block
  pub has_holder : slice_get blocks holder ≡ Some holder_block
  pub holder_around : holder_block.around ≡ around
  pub p : Y.Procedure
  pub own : (head_of p.block).number ≡ number
  pub parameters : p.parameters ≡ parameter_indices blocks number head.parameters
  pub result : p.result ≡ result_type blocks holder head
  pub is : IsProcedure w number (level_of_block blocks holder) p

level_by : (blocks : List Block) (n : ℕ) (b : Block) → slice_get blocks n ≡ Some b
    → level_of_block blocks n ≡ length b.around - 2
level_by blocks n b e = ap (λ o. depth_of_block o - 2) e

second_same : (n m : ℕ) (xs ys : List ℕ) → n ∷ xs ≡ m ∷ ys → xs ≡ ys
second_same n m xs ys e = cc e

first_same : (n m : ℕ) (xs ys : List ℕ) → n ∷ xs ≡ m ∷ ys → n ≡ m
first_same n m xs ys e = cc e

pub is_called : (blocks : List Block) (w : Where) → Facts blocks w.program w.table → (holder index : ℕ)
    (d : Declaration) (head : T.ProcedureHead) → IsIn blocks holder index d → d.what ≡ ProcedureName head
    → IsSeen blocks w.around holder → IsCalled blocks w holder head
is_called blocks w facts holder index d head i e seen =
    let hb = i.block in
    let z : 0 + holder ≡ holder = omega arith in
    let hold : BlockHolds blocks holder hb = subst (λ n. BlockHolds blocks n hb) z
    (from_at (BlockHolds blocks) 0 blocks holder hb facts.heads i.has_block) in
    let k : IsBlockOf blocks hb.around head = subst (HeadHeld blocks hb.around) e
    (every_at (λ (d : Declaration). HeadHeld blocks hb.around d.what) hb.declarations index d hold.0 i.has) in
    let y : 0 + k.number ≡ k.number = omega arith in
    let has : IsTyped w.program.procedures k.number k.block.head = subst (λ n. IsTyped w.program.procedures n
    k.block.head)
    y (from_at (λ n (b : Block). IsTyped w.program.procedures n b.head) 0 blocks k.number k.block facts.typed
    k.has_block) in
    let t = typed_by blocks k.number w.program.procedures facts.procedures
    (subst (IsTyped w.program.procedures k.number) k.has_head has) in
    let f = t.from in
    let number : f.number ≡ k.number = sym f.own ∙ t.own in
    let block : f.block ≡ k.block = same_some f.block k.block
    (sym f.found ∙ (ap (slice_get blocks) number ∙ k.has_block)) in
    let heads : f.head ≡ head = same_some f.head head
    (sym f.has_head ∙ (ap (λ (b : Block). b.head) block ∙ k.has_head)) in
    let around : f.around ≡ hb.around = second_same f.number k.number f.around hb.around
    (sym f.around_is ∙ (ap (λ (b : Block). b.around) block ∙ k.around_is)) in
    let holder_is : f.holder ≡ holder = sym f.holder_is
    ∙ (ap first_or_none around ∙ ap first_or_none hold.1.1) in
    let en = entry_at w.table blocks k.number k.block facts.entries k.has_block in
    let numbers : numbers_around en.0 ≡ k.number ∷ holder ∷ hold.1.0 = match_at w.table blocks k.number en.0 k.block
    facts.entries en.1 k.has_block ∙ (k.around_is ∙ ap (λ l. k.number ∷ l) hold.1.1) in
    let entry = holder_entry w.table k.number holder hold.1.0 en.0 en.1 numbers
    (λ z. declares_none (ap (slice_get blocks) z ∙ facts.first) i) in
    let deep = entry.deep in
    let a : length k.block.around ≡ suc (length hb.around) = ap length k.around_is in
    let b : length hb.around ≡ suc (length hold.1.0) = ap length hold.1.1 in
    let own_level : (head_of t.p.block).level ≡ length k.block.around - 2 =
    f.level_is ∙ (ap (level_of_block blocks) number ∙ level_by blocks k.number k.block k.has_block) in
    let outer_level : level_of_block blocks holder ≡ length hb.around - 2 = level_by blocks holder hb i.has_block in
    record {
      number = k.number;
      number_is = number_of_head blocks w.program w.table facts hb.around head k;
      block = k.block;
      has_block = k.has_block;
      has_head = k.has_head;
      named = subst (λ (h : T.ProcedureHead). IsNamed h.labels) heads f.named;
      around = hb.around;
      around_is = k.around_is;
      holder_block = hb;
      has_holder = i.has_block;
      holder_around = refl;
      p = t.p;
      own = t.own;
      parameters =
          f.parameters
          ∙ (ap (λ n. parameter_indices blocks n f.head.parameters) number
          ∙ ap (λ (h : T.ProcedureHead). parameter_indices blocks k.number h.parameters) heads);
      result =
          f.result ∙ (ap (λ n. result_type blocks n f.head) holder_is ∙ ap (result_type blocks holder) heads);
      is = record {
        found = t.found;
        level_is = omega (arith, own_level, outer_level, a, b, deep);
        kind = f.kind_is;
        own = entry.own;
        holder = entry.holder_around;
        outer = entry.outer;
        entry = entry.entry;
        holder_around =
            subst (λ n. IsAround n (level_of_block blocks holder) w.around) (sym entry.holder_is)
            (is_around blocks w.program w.table facts holder index d i w.around seen);
      };
    }
