-- The variables of level 1 that a block declares, each with its members: a structure, in which each member belongs to
-- those before it; and each variable that is declared is a member of one of them.
use Rattle.std.proofs.Common.{◌≡◌, ℕ, zero, suc, ◌+◌, ◌≤◌, ◌==◌, Bool, true, false, not, ◌&&◌, ◌||◌, List, [], ◌∷◌}
use Rattle.std.proofs.Common.{◌++◌, map, length, Some, if◌then◌else◌, refl, sym, ap, ◌∙◌, subst, arith}
use Rattle.std.proofs.Common.{inl, inr}
use Rattle.std.specs.Prelude.{slice_get, nat_lt, ⊤, ◌⊎◌}
use Rattle.std.specs.List.{flat_map}
use Rattle.std.proofs.lemmas.Bool.Decides.{nat_tests}
use Rattle.pli_language.specs.declared.expr.Place.{Place}
use Rattle.pli_language.specs.Tree as T
use Rattle.pli_language.specs.Declarations.{Variable, level_of, Held, holders, smaller, held, What, Variable', Label}
use Rattle.pli_language.specs.Declarations.{ProcedureName, Declaration, Block, variable_declared, labels_declared}
use Rattle.pli_language.specs.Declarations.{declared_in, declared_in_item, declared_in_stmt, blocks_in, blocks_in_item}
use Rattle.pli_language.specs.Declarations.{blocks_in_stmt, blocks_of, variables_of}
use Rattle.pli_language.specs.Declaring.{has, own_attributes, stands_alone, first_or, root_of, is_deeper, has_members}
use Rattle.pli_language.specs.Declaring.{declarations_faults}
use Rattle.pli_language.specs.Declaring.{what_faults, structure_after}
use Rattle.pli_language.specs.Declaring.{held_is}
use Rattle.pli_typing.specs.Variables.{members_first, member_then, variable_then, variables_in}
use Rattle.well_formed_trees.specs.Every.{Every}
use Rattle.well_formed_trees.proofs.Lists.{first_empty, second_empty, first_false, second_false, every_both}
use Rattle.well_formed_trees.proofs.Places.{same_some}
use Rattle.well_formed_trees.proofs.DeclaredOnce.{total, spot, at_declaration}
use Rattle.well_formed_trees.proofs.Parameters.{attributes_fine}

-- ---- what a declaration belongs to

-- these stand first among those
abbrev pub Begins : List Variable → List Variable → Type 0
Begins vs chain = (rest : List Variable) × (chain ≡ vs ++ rest)

-- what may hold the next variable
abbrev pub chain_behind : What → List Variable
chain_behind (Variable' h) = h.above ++ h.variable ∷ []
chain_behind Label = []
chain_behind (ProcedureName head) = []

abbrev pub Links : List Variable → T.Name → What → Type 0
Links chain name (Variable' h) = Begins h.above chain × (name ≡ h.variable.declared.name)
Links chain name Label = ⊤
Links chain name (ProcedureName head) = ⊤

-- each variable is held by some of those that hold the one before it, or by that
abbrev pub Chained : List Variable → List Declaration → Type 0
Chained chain [] = ⊤
Chained chain (d ∷ ds) = Links chain d.name d.what × Chained (chain_behind d.what) ds

none_begin : (chain : List Variable) (vs : List Variable) → Begins vs [] → Begins vs chain
none_begin chain [] h = (chain, refl)
none_begin chain (v ∷ vs) h = absurd (cc h.1)

links_any : (chain : List Variable) (name : T.Name) (w : What) → Links [] name w → Links chain name w
links_any chain name (Variable' h) l = (none_begin chain h.above l.0, l.1)
links_any chain name Label l = tt
links_any chain name (ProcedureName head) l = tt

chained_any : (chain : List Variable) (ds : List Declaration) → Chained [] ds → Chained chain ds
chained_any chain [] h = tt
chained_any chain (d ∷ ds) h = (links_any chain d.name d.what h.0, h.1)

chained_both : (chain : List Variable) (ds es : List Declaration) → Chained chain ds → Chained [] es
    → Chained chain (ds ++ es)
chained_both chain [] es h k = chained_any chain es k
chained_both chain (d ∷ ds) es h k = (h.0, chained_both (chain_behind d.what) ds es h.1 k)

smaller_begin : (chain : List Variable) (level : ℕ) → Begins (smaller chain level) chain
smaller_begin [] level = ([], refl)
smaller_begin (a ∷ chain) level = by (nat_lt (level_of a) level) (smaller_begin chain level) where
  by : (b : Bool) → Begins (smaller chain level) chain
      → Begins (if b then a ∷ smaller chain level else []) (a ∷ chain)
  by true h = (h.0, ap (λ l. a ∷ l) h.1)
  by false h = (a ∷ chain, refl)

holders_begin : (chain : List Variable) (v : Variable) → Begins (holders chain v) chain
holders_begin chain v = by (nat_lt 1 (level_of v)) where
  by : (b : Bool) → Begins (if b then smaller chain (level_of v) else []) chain
  by true = smaller_begin chain (level_of v)
  by false = (chain, refl)

helds_chained : (chain vs : List Variable) → Chained chain (map variable_declared (held chain vs))
unfolding held
helds_chained chain [] = tt
helds_chained chain (v ∷ vs) = ((holders_begin chain v, refl), helds_chained (holders chain v ++ v ∷ []) vs)

labels_chained : (names : List T.Name) → Chained [] (labels_declared names)
labels_chained [] = tt
labels_chained (n ∷ ns) = (tt, labels_chained ns)

procedure_chained : (head : T.ProcedureHead) (names : List T.Name)
    → Chained [] (map (λ n. record { name = n; what = ProcedureName head }) names)
procedure_chained head [] = tt
procedure_chained head (n ∷ ns) = (tt, procedure_chained head ns)

mutual
  unfolding declared_in declared_in_item declared_in_stmt

  list_chained : (is : T.Items) → Chained [] (declared_in is)
  list_chained T.NoItem = tt
  list_chained (T.ItemThen i is) =
      chained_both [] (declared_in_item i) (declared_in is) (item_chained i) (list_chained is)

  item_chained : (i : T.Item) → Chained [] (declared_in_item i)
  item_chained (T.Procedure head body) = procedure_chained head head.labels
  item_chained (T.Declare items place) = helds_chained [] (flat_map variables_of items)
  item_chained (T.Statement labels s) =
      chained_both [] (labels_declared labels) (declared_in_stmt s) (labels_chained labels) (stmt_chained s)
  item_chained (T.EndLabels labels place) = labels_chained labels

  stmt_chained : (s : T.Stmt) → Chained [] (declared_in_stmt s)
  stmt_chained (T.If e unit p) = stmt_chained unit
  stmt_chained (T.IfElse e unit otherwise p) =
      chained_both [] (declared_in_stmt unit) (declared_in_stmt otherwise) (stmt_chained unit) (stmt_chained otherwise)
  stmt_chained (T.Do body p) = list_chained body
  stmt_chained (T.DoWhile e body p) = list_chained body
  stmt_chained (T.DoCount c body p) = list_chained body
  stmt_chained (T.OnUnit c unit p) = stmt_chained unit
  stmt_chained _ = tt

abbrev pub BlockChained : Block → Type 0
BlockChained b = Chained [] b.declarations

mutual
  unfolding blocks_in blocks_in_item blocks_in_stmt

  blocks_chained : (around : List ℕ) (n : ℕ) (is : T.Items) → Every BlockChained (blocks_in around n is)
  blocks_chained around n T.NoItem = tt
  blocks_chained around n (T.ItemThen i is) =
      let bs = blocks_in_item around n i in
      every_both BlockChained bs (blocks_in around (n + length bs) is) (item_blocks_chained around n i)
      (blocks_chained around (n + length bs) is)

  item_blocks_chained : (around : List ℕ) (n : ℕ) (i : T.Item) → Every BlockChained (blocks_in_item around n i)
  item_blocks_chained around n (T.Procedure head body) =
      (list_chained body, blocks_chained (n ∷ around) (n + 1) body)
  item_blocks_chained around n (T.Declare items place) = tt
  item_blocks_chained around n (T.Statement labels s) = stmt_blocks_chained around n s
  item_blocks_chained around n (T.EndLabels labels place) = tt

  stmt_blocks_chained : (around : List ℕ) (n : ℕ) (s : T.Stmt) → Every BlockChained (blocks_in_stmt around n s)
  stmt_blocks_chained around n (T.If e unit p) = stmt_blocks_chained around n unit
  stmt_blocks_chained around n (T.IfElse e unit otherwise p) =
      let bs = blocks_in_stmt around n unit in
      every_both BlockChained bs (blocks_in_stmt around (n + length bs) otherwise) (stmt_blocks_chained around n unit)
      (stmt_blocks_chained around (n + length bs) otherwise)
  stmt_blocks_chained around n (T.Do body p) = blocks_chained around n body
  stmt_blocks_chained around n (T.DoWhile e body p) = blocks_chained around n body
  stmt_blocks_chained around n (T.DoCount c body p) = blocks_chained around n body
  stmt_blocks_chained around n (T.OnUnit c unit p) = stmt_blocks_chained around n unit
  stmt_blocks_chained around n (T.Begin body p) = (list_chained body, blocks_chained (n ∷ around) (n + 1) body)
  stmt_blocks_chained around n _ = tt

pub all_blocks_chained : (tree : T.Tree) → Every BlockChained (blocks_of tree)
unfolding blocks_of
all_blocks_chained tree = (tt, blocks_chained (0 ∷ []) 1 tree.procedures)

-- ---- a variable with its members

-- members, where these hold the first of them
abbrev pub AreHeld : List Variable → List Held → Type 0
AreHeld chain [] = ⊤
AreHeld chain (m ∷ ms) =
    Begins m.above chain × ((stands_alone m ≡ false) × AreHeld (m.above ++ m.variable ∷ []) ms)

abbrev pub IsStructure : List Held → Type 0
IsStructure [] = ⊥
IsStructure (h ∷ ms) = (h.above ≡ []) × AreHeld (h.variable ∷ []) ms

none_above : {X : Type 0} (xs : List X) → (length xs == 0) ≡ true → xs ≡ []
none_above [] e = refl
none_above (x ∷ xs) e = absurd (never (length xs) e) where
  never : (n : ℕ) → (suc n == 0) ≡ true → ⊥
  never n e = grind (arith, nat_tests)

member_held : (chain : List Variable) (name : T.Name) (w : What) (rest : List Held) → Links chain name w
    → AreHeld (chain_behind w) rest → AreHeld chain (member_then w rest)
member_held chain name (Variable' h) rest l k = by (stands_alone h) refl where
  by : (b : Bool) → stands_alone h ≡ b → AreHeld chain (if b then [] else h ∷ rest)
  by true e = tt
  by false e = (l.0, (e, k))
member_held chain name Label rest l k = tt
member_held chain name (ProcedureName head) rest l k = tt

members_held : (chain : List Variable) (ds : List Declaration) → Chained chain ds → AreHeld chain (members_first ds)
members_held chain [] h = tt
members_held chain (d ∷ ds) h =
    member_held chain d.name d.what (members_first ds) h.0 (members_held (chain_behind d.what) ds h.1)

structure_then : (w : What) (ms : List Held) (rest : List (List Held)) → AreHeld (chain_behind w) ms
    → Every IsStructure rest → Every IsStructure (variable_then w ms rest)
structure_then (Variable' h) ms rest k r = by (stands_alone h) (not (has 13 (own_attributes h))) refl where
  by : (a b : Bool) → stands_alone h ≡ a → Every IsStructure (if a && b then (h ∷ ms) ∷ rest else rest)
  by true true e =
      let above = none_above h.above e in
      ((above, subst (λ vs. AreHeld (vs ++ h.variable ∷ []) ms) above k), r)
  by true false e = r
  by false b e = r
structure_then Label ms rest k r = r
structure_then (ProcedureName head) ms rest k r = r

pub structures : (chain : List Variable) (ds : List Declaration) → Chained chain ds → Every IsStructure (variables_in
    ds)
structures chain [] h = tt
structures chain (d ∷ ds) h =
    structure_then d.what (members_first ds) (variables_in ds) (members_held (chain_behind d.what) ds h.1)
    (structures (chain_behind d.what) ds h.1)

-- ---- the variable of level 1 that a member belongs to

first_of : (v : Variable) (chain vs : List Variable) (w : Variable) → Begins vs (v ∷ chain) → (length vs == 0) ≡ false
    → first_or vs w ≡ v
first_of v chain [] w h e = absurd (cc e)
first_of v chain (u ∷ us) w h e =
    sym (heads v u chain (us ++ h.0) h.1) where
      heads : (v u : Variable) (vs us : List Variable) → v ∷ vs ≡ u ∷ us → v ≡ u
      heads v u vs us e = cc e

-- so what holds the next one begins with it, too
still_first : (v : Variable) (chain vs : List Variable) (w : Variable) → Begins vs (v ∷ chain)
    → (length vs == 0) ≡ false → (rest : List Variable) × (vs ++ w ∷ [] ≡ v ∷ rest)
still_first v chain [] w h e = absurd (cc e)
still_first v chain (u ∷ us) w h e =
    (us ++ w ∷ [], ap (λ x. x ∷ (us ++ w ∷ [])) (first_of v chain (u ∷ us) w h e))

members_root : (v : Variable) (chain : List Variable) (ms : List Held) → AreHeld (v ∷ chain) ms
    → Every (λ m. root_of m ≡ v) ms
members_root v chain [] h = tt
members_root v chain (m ∷ ms) h =
    let next = still_first v chain m.above m.variable h.0 h.1.0 in (
      first_of v chain m.above m.variable h.0 h.1.0,
      members_root v next.0 ms (subst (λ vs. AreHeld vs ms) next.1 h.1.1),
    )

pub structure_root : (h : Held) (ms : List Held) → IsStructure (h ∷ ms)
    → Every (λ m. root_of m ≡ h.variable) (h ∷ ms)
structure_root h ms s = (ap (λ above. first_or above h.variable) s.0, members_root h.variable [] ms s.1)

-- ---- each variable that is declared is in one of them

pub record InVariables (ds : List Declaration) (h : Held) : Type 0 where
  pub index : ℕ
  pub all : List Held
  pub found : slice_get (variables_in ds) index ≡ Some all
  pub place : ℕ
  pub there : slice_get all place ≡ Some h

abbrev pub InMembers : List Declaration → Held → Type 0
InMembers ds h = (place : ℕ) × (slice_get (members_first ds) place ≡ Some h)

-- no member comes where nothing may hold it
no_member : (ds : List Declaration) → Chained [] ds → members_first ds ≡ []
no_member [] h = refl
no_member (d ∷ ds) h = by d.what h.0 where
  alone : (h : Held) → Begins h.above [] → stands_alone h ≡ true
  alone h b = ap (λ vs. length vs == 0) (nothing h.above b) where
    nothing : (vs : List Variable) → Begins vs [] → vs ≡ []
    nothing [] b = refl
    nothing (v ∷ vs) b = absurd (cc b.1)

  by : (w : What) → Links [] d.name w → member_then w (members_first ds) ≡ []
  by (Variable' h) l = ap (λ b. if b then [] else h ∷ members_first ds) (alone h l.0)
  by Label l = refl
  by (ProcedureName head) l = refl

none_there : {X : Type 0} (xs : List X) (i : ℕ) (x : X) → xs ≡ [] → slice_get xs i ≡ Some x → ⊥
none_there xs i x e f = nothing (ap (λ l. slice_get l i) (sym e) ∙ f) where
  nothing : slice_get [] i ≡ Some x → ⊥
  nothing e = absurd (cc e)

-- where a member comes next, the variable before it has members
pub has_some : (g h : Held) (ds : List Declaration) → stands_alone g ≡ true → InMembers ds h → has_members g ds ≡ true
has_some g h [] e m = absurd (cc m.1)
has_some g h (d ∷ ds) e m = by d.what m.1 where
  deeper : (n m : ℕ) → (n == 0) ≡ true → (m == 0) ≡ false → nat_lt n m ≡ true
  deeper n m e f = grind (arith, nat_tests)

  by : (w : What) → slice_get (member_then w (members_first ds)) m.0 ≡ Some h → held_is (is_deeper g) w ≡ true
  by (Variable' k) f = which (stands_alone k) refl f where
    which : (b : Bool) → stands_alone k ≡ b → slice_get (if b then [] else k ∷ members_first ds) m.0 ≡ Some h
        → is_deeper g k ≡ true
    which true a f = absurd (cc f)
    which false a f = deeper (length g.above) (length k.above) e a
  by Label f = absurd (cc f)
  by (ProcedureName head) f = absurd (cc f)

builtin_alone : (ps : List T.Name) (earlier : List Held) (g : Held) (ds : List Declaration)
    → what_faults ps earlier (Variable' g) ds ≡ [] → has_members g ds ≡ true → has 13 (own_attributes g) ≡ false
builtin_alone ps earlier g ds e m =
    let bad = attributes_fine ps earlier g ds e in
    let own = second_false _ _ (first_false _ _ (first_false _ _ (first_false _ _ (first_false _ _ bad)))) in
    of_both (has 13 (own_attributes g)) (has_members g ds) _ _ own m where
      of_both : (a b c d : Bool) → (a && ((b || c) || d)) ≡ false → b ≡ true → a ≡ false
      of_both false b c d e f = refl
      of_both true true c d e f = absurd (cc e)
      of_both true false c d e f = absurd (cc f)

-- one more before them
kept_then : (w : What) (ms : List Held) (ds : List Declaration) (h : Held) (i : ℕ) (all : List Held)
    → slice_get (variables_in ds) i ≡ Some all
    → (j : ℕ) × (slice_get (variable_then w ms (variables_in ds)) j ≡ Some all)
kept_then (Variable' g) ms ds h i all e = by (stands_alone g && not (has 13 (own_attributes g))) where
  by : (b : Bool)
      → (j : ℕ) × (slice_get (if b then (g ∷ ms) ∷ variables_in ds else variables_in ds) j ≡ Some all)
  by true = (suc i, e)
  by false = (i, e)
kept_then Label ms ds h i all e = (i, e)
kept_then (ProcedureName head) ms ds h i all e = (i, e)

begun_then : (g : Held) (ms : List Held) (rest : List (List Held)) → stands_alone g ≡ true
    → has 13 (own_attributes g) ≡ false → slice_get (variable_then (Variable' g) ms rest) 0 ≡ Some (g ∷ ms)
begun_then g ms rest a b =
    ap (λ x. slice_get (if x && not (has 13 (own_attributes g)) then (g ∷ ms) ∷ rest else rest) 0) a
    ∙ ap (λ x. slice_get (if true && not x then (g ∷ ms) ∷ rest else rest) 0) b

abbrev IsLocated : List Declaration → Held → Type 0
IsLocated ds h = InVariables ds h ⊎ InMembers ds h

first_located : (d : Declaration) (ds : List Declaration) (h : Held) → d.what ≡ Variable' h
    → has 13 (own_attributes h) ≡ false → IsLocated (d ∷ ds) h
first_located d ds h w n = by (stands_alone h) refl where
  by : (b : Bool) → stands_alone h ≡ b → IsLocated (d ∷ ds) h
  by true e = inl (record {
    index = 0;
    all = h ∷ members_first ds;
    found =
        ap (λ w. slice_get (variable_then w (members_first ds) (variables_in ds)) 0) w
        ∙ begun_then h (members_first ds) (variables_in ds) e n;
    place = 0;
    there = refl;
  })
  by false e =
      inr (
        0,
        ap (λ w. slice_get (member_then w (members_first ds)) 0) w
            ∙ ap (λ b. slice_get (if b then [] else h ∷ members_first ds) 0) e,
      )

member_located : (ps : List T.Name) (earlier : List Held) (d : Declaration) (ds : List Declaration) (h : Held) (w :
    What)
    → d.what ≡ w → Chained (chain_behind w) ds → what_faults ps earlier w ds ≡ [] → InMembers ds h
    → IsLocated (d ∷ ds) h
member_located ps earlier d ds h Label e c f m = absurd (none_there (members_first ds) m.0 h (no_member ds c) m.1)
member_located ps earlier d ds h (ProcedureName head) e c f m =
    absurd (none_there (members_first ds) m.0 h (no_member ds c) m.1)
member_located ps earlier d ds h (Variable' g) e c f m = by (stands_alone g) refl where
  by : (b : Bool) → stands_alone g ≡ b → IsLocated (d ∷ ds) h
  by true a = inl (record {
    index = 0;
    all = g ∷ members_first ds;
    found =
        ap (λ w. slice_get (variable_then w (members_first ds) (variables_in ds)) 0) e
        ∙ begun_then g (members_first ds) (variables_in ds) a
        (builtin_alone ps earlier g ds f (has_some g h ds a m));
    place = suc m.0;
    there = m.1;
  })
  by false a =
      inr (
        suc m.0,
        ap (λ w. slice_get (member_then w (members_first ds)) (suc m.0)) e
            ∙ (ap (λ b. slice_get (if b then [] else g ∷ members_first ds) (suc m.0)) a ∙ m.1),
      )

later_located : (ps : List T.Name) (earlier : List Held) (d : Declaration) (ds : List Declaration) (h : Held)
    → Chained (chain_behind d.what) ds → what_faults ps earlier d.what ds ≡ [] → IsLocated ds h
    → IsLocated (d ∷ ds) h
later_located ps earlier d ds h c f (inl i) =
    let k = kept_then d.what (members_first ds) ds h i.index i.all i.found in
    inl (record { index = k.0; all = i.all; found = k.1; place = i.place; there = i.there })
later_located ps earlier d ds h c f (inr m) = member_located ps earlier d ds h d.what refl c f m

located : (ps : List T.Name) (earlier : List Held) (chain : List Variable) (ds : List Declaration) (i : ℕ)
    (d : Declaration) (h : Held) → Chained chain ds → declarations_faults ps earlier ds ≡ []
    → slice_get ds i ≡ Some d → d.what ≡ Variable' h → has 13 (own_attributes h) ≡ false → IsLocated ds h
located ps earlier chain [] i d h c f e w n = absurd (cc e)
located ps earlier chain (x ∷ ds) zero d h c f e w n =
    first_located x ds h (ap (λ (y : Declaration). y.what) (same_some x d e) ∙ w) n
located ps earlier chain (x ∷ ds) (suc i) d h c f e w n =
    let own = what_faults ps earlier x.what ds in
    let others = declarations_faults ps (structure_after earlier x.what) ds in
    later_located ps earlier x ds h c.1 (first_empty own others f)
    (located ps (structure_after earlier x.what) (chain_behind x.what) ds i d h c.1 (second_empty own others f) e w n)

pub in_variables : (ps : List T.Name) (ds : List Declaration) (i : ℕ) (d : Declaration) (h : Held) → Chained [] ds
    → declarations_faults ps [] ds ≡ [] → slice_get ds i ≡ Some d → d.what ≡ Variable' h
    → has 13 (own_attributes h) ≡ false → InVariables ds h
in_variables ps ds i d h c f e w n = by (located ps [] [] ds i d h c f e w n) where
  by : IsLocated ds h → InVariables ds h
  by (inl k) = k
  by (inr m) = absurd (none_there (members_first ds) m.0 h (no_member ds c) m.1)

-- ---- places among them

abbrev pub at_held : Place → Held → ℕ
at_held p h = spot p h.variable.declared.name.place

abbrev pub at_first : Place → List Held → ℕ
at_first p [] = 0
at_first p (h ∷ hs) = at_held p h

members_total : (p : Place) (chain : List Variable) (ds : List Declaration) → Chained chain ds
    → total (at_held p) (members_first ds) ≤ total (at_declaration p) ds
members_total p chain [] c = omega arith
members_total p chain (d ∷ ds) c = by d.what c.0 (members_total p (chain_behind d.what) ds c.1) where
  by : (w : What) → Links chain d.name w → total (at_held p) (members_first ds) ≤ total (at_declaration p) ds
      → total (at_held p) (member_then w (members_first ds))
      ≤ spot p d.name.place + total (at_declaration p) ds
  by (Variable' h) l t =
      let s : spot p d.name.place ≡ at_held p h = ap (λ (n : T.Name). spot p n.place) l.1 in
      which (stands_alone h) s where
        which : (b : Bool) → spot p d.name.place ≡ at_held p h
            → total (at_held p) (if b then [] else h ∷ members_first ds)
            ≤ spot p d.name.place + total (at_declaration p) ds
        which true s = omega arith
        which false s = omega (arith, s, t)
  by Label l t = omega arith
  by (ProcedureName head) l t = omega arith

pub variables_total : (p : Place) (chain : List Variable) (ds : List Declaration) → Chained chain ds
    → Every (λ all. total (at_held p) all ≤ total (at_declaration p) ds) (variables_in ds)
variables_total p chain [] c = tt
variables_total p chain (d ∷ ds) c =
    by d.what c.0 (members_total p (chain_behind d.what) ds c.1)
    (more (variables_in ds) (variables_total p (chain_behind d.what) ds c.1)) where
      here : List Held → Type 0
      here all = total (at_held p) all ≤ spot p d.name.place + total (at_declaration p) ds

      more : (xs : List (List Held)) → Every (λ all. total (at_held p) all ≤ total (at_declaration p) ds) xs
          → Every here xs
      more [] h = tt
      more (x ∷ xs) h =
          let a = h.0 in
          (omega (arith, a), more xs h.1)

      by : (w : What) → Links chain d.name w → total (at_held p) (members_first ds) ≤ total (at_declaration p) ds
          → Every here (variables_in ds) → Every here (variable_then w (members_first ds) (variables_in ds))
      by (Variable' h) l t k =
          let s : spot p d.name.place ≡ at_held p h = ap (λ (n : T.Name). spot p n.place) l.1 in
          which (stands_alone h && not (has 13 (own_attributes h))) s where
            which : (b : Bool) → spot p d.name.place ≡ at_held p h
                → Every here (if b then (h ∷ members_first ds) ∷ variables_in ds else variables_in ds)
            which true s = (omega (arith, s, t), k)
            which false s = k
      by Label l t k = k
      by (ProcedureName head) l t k = k

pub roots_total : (p : Place) (chain : List Variable) (ds : List Declaration) → Chained chain ds
    → total (at_first p) (variables_in ds) ≤ total (at_declaration p) ds
roots_total p chain [] c = omega arith
roots_total p chain (d ∷ ds) c = by d.what c.0 (roots_total p (chain_behind d.what) ds c.1) where
  by : (w : What) → Links chain d.name w → total (at_first p) (variables_in ds) ≤ total (at_declaration p) ds
      → total (at_first p) (variable_then w (members_first ds) (variables_in ds))
      ≤ spot p d.name.place + total (at_declaration p) ds
  by (Variable' h) l t =
      let s : spot p d.name.place ≡ at_held p h = ap (λ (n : T.Name). spot p n.place) l.1 in
      which (stands_alone h && not (has 13 (own_attributes h))) s where
        which : (b : Bool) → spot p d.name.place ≡ at_held p h
            → total (at_first p) (if b then (h ∷ members_first ds) ∷ variables_in ds else variables_in ds)
            ≤ spot p d.name.place + total (at_declaration p) ds
        which true s = omega (arith, s, t)
        which false s = omega (arith, t)
  by Label l t = omega (arith, t)
  by (ProcedureName head) l t = omega (arith, t)
