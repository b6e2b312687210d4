-- The names that a source writes where it doesn't declare them, each with the block that it is written in.
use Rattle.std.specs.Prelude.{ℕ, ◌+◌, ◌-◌, List, [], ◌∷◌, ◌++◌, map, length, nat_lt, if◌then◌else◌, Option, Some, None}
use Rattle.std.specs.Prelude.{unwrap_or}
use Rattle.std.specs.List.{flat_map}
use Rattle.pli_declare.specs.Among.{letters_of}
use Rattle.pli_language.specs.Tree.{Name, Expr, Number, Text, Bit, Parenthesized, Prefix, Infix, Refers, Reference}
use Rattle.pli_language.specs.Tree.{Plain, Located, Qualified, Last, Of, Arguments, Absent, Listed, Exprs, NoExpr}
use Rattle.pli_language.specs.Tree.{ExprThen, Refer, Extent, Bound, StarBound, Upper, Both, Size, StarSize, Given}
use Rattle.pli_language.specs.Tree.{Attribute, Character, Area, Offset, Based, DeclaredName, DeclareItem, Allocation}
use Rattle.pli_language.specs.Tree.{Freeing, EditPair, ProcedureHead, Counting, Stmt, Assign, If, IfElse, Do, DoWhile}
use Rattle.pli_language.specs.Tree.{DoCount, Begin, OnUnit, Call, Return, Goto, Allocate, Free, Get, Put, Item}
use Rattle.pli_language.specs.Tree.{Procedure, Declare, Statement, EndLabels, Items, NoItem, ItemThen, Tree}
use Rattle.pli_listing.specs.declared.mention.Mention.{Mention as MentionHeld}

-- the number of the block, names with points between them, outermost first, and the line of the last one
pub record Mention : Type 0 where
  pub block : ℕ
  pub names : List (List ℕ)
  pub line : ℕ

abbrev pub mention_of : MentionHeld → Mention
mention_of m = record { block = m.block; names = letters_of m.names.items; line = m.line }

abbrev pub written : ℕ → List (List ℕ) → Name → Mention
written block qualifiers n = record { block = block; names = qualifiers ++ n.letters ∷ []; line = n.place.line }

abbrev pub in_name : ℕ → Option Name → List Mention
in_name block None = []
in_name block (Some n) = written block [] n ∷ []

-- ---- expressions

abbrev mutual
  pub in_expr : ℕ → Expr → List Mention
  in_expr block (Number v p) = []
  in_expr block (Text t p) = []
  in_expr block (Bit b p) = []
  in_expr block (Parenthesized e p) = in_expr block e
  in_expr block (Prefix op e p) = in_expr block e
  in_expr block (Infix op l r) = in_expr block l ++ in_expr block r
  in_expr block (Refers r) = in_reference block r

  pub in_reference : ℕ → Reference → List Mention
  in_reference block (Plain q) = in_qualified block [] q
  in_reference block (Located l q) = in_reference block l ++ in_qualified block [] q

  -- behind these qualifiers
  pub in_qualified : ℕ → List (List ℕ) → Qualified → List Mention
  in_qualified block before (Last n a) = written block before n ∷ in_arguments block a
  in_qualified block before (Of n a q) = in_arguments block a ++ in_qualified block (before ++ n.letters ∷ []) q

  pub in_arguments : ℕ → Arguments → List Mention
  in_arguments block Absent = []
  in_arguments block (Listed es) = in_exprs block es

  pub in_exprs : ℕ → Exprs → List Mention
  in_exprs block NoExpr = []
  in_exprs block (ExprThen e es) = in_expr block e ++ in_exprs block es

abbrev pub in_option : ℕ → Option Expr → List Mention
in_option block None = []
in_option block (Some e) = in_expr block e

abbrev pub in_optional : ℕ → Option Reference → List Mention
in_optional block None = []
in_optional block (Some r) = in_reference block r

-- ---- declarations

-- the member that keeps an extent, in its structure
abbrev pub in_refer : ℕ → List ℕ → Option Refer → List Mention
in_refer block structure None = []
in_refer block structure (Some r) = written block (structure ∷ []) r.member ∷ []

abbrev pub in_extent : ℕ → List ℕ → Extent → List Mention
in_extent block structure e = in_expr block e.value ++ in_refer block structure e.refer

abbrev pub in_bound : ℕ → List ℕ → Bound → List Mention
in_bound block structure (StarBound p) = []
in_bound block structure (Upper u) = in_extent block structure u
in_bound block structure (Both l u) = in_extent block structure l ++ in_extent block structure u

abbrev pub in_size : ℕ → List ℕ → Option Size → List Mention
in_size block structure None = []
in_size block structure (Some (StarSize p)) = []
in_size block structure (Some (Given e)) = in_extent block structure e

abbrev pub in_attribute : ℕ → List ℕ → Attribute → List Mention
in_attribute block structure (Character size) = in_size block structure size
in_attribute block structure (Area size) = in_size block structure size
in_attribute block structure (Offset area) = in_name block area
in_attribute block structure (Based locator) = in_name block locator
in_attribute block structure _ = []

abbrev pub in_bounds : ℕ → List ℕ → List Bound → List Mention
in_bounds block structure bounds = flat_map (in_bound block structure) bounds

abbrev pub in_item_declared : ℕ → List ℕ → DeclareItem → List Mention
in_item_declared block structure i =
    flat_map (λ d. in_bounds block structure d.dimensions) i.names
    ++ (in_bounds block structure i.dimensions ++ flat_map (in_attribute block structure) i.attributes)

abbrev pub last_letters : List ℕ → List DeclaredName → List ℕ
last_letters letters [] = letters
last_letters letters (d ∷ ds) = last_letters d.name.letters ds

-- the outermost structure of what is declared up to an item: the last name of level 1
abbrev pub outermost_up_to : List ℕ → DeclareItem → List ℕ
outermost_up_to structure i = if nat_lt 1 (unwrap_or i.level 1) then structure else last_letters structure i.names

abbrev pub in_declare : ℕ → List ℕ → List DeclareItem → List Mention
in_declare block structure [] = []
in_declare block structure (i ∷ is) =
    in_item_declared block (outermost_up_to structure i) i ++ in_declare block (outermost_up_to structure i) is

-- ---- statements

abbrev pub in_allocation : ℕ → Allocation → List Mention
in_allocation block a = written block [] a.variable ∷ (in_optional block a.area ++ in_optional block a.locator)

abbrev pub in_freeing : ℕ → Freeing → List Mention
in_freeing block f = in_reference block f.generation ++ in_optional block f.area

abbrev pub in_pairs : ℕ → List EditPair → List Mention
in_pairs block pairs = flat_map (λ p. in_exprs block p.items) pairs

abbrev pub in_counting : ℕ → Counting → List Mention
in_counting block c =
    in_reference block c.variable
    ++ (in_expr block c.start ++ (in_option block c.limit ++ (in_option block c.step ++ in_option block c.condition)))

-- in a statement without others inside
abbrev pub in_simple : ℕ → Stmt → List Mention
in_simple block (Assign target source p) = in_reference block target ++ in_expr block source
in_simple block (Call n a p) = written block [] n ∷ in_arguments block a
in_simple block (Return value p) = in_option block value
in_simple block (Goto n p) = written block [] n ∷ []
in_simple block (Allocate allocations p) = flat_map (in_allocation block) allocations
in_simple block (Free freeings p) = flat_map (in_freeing block) freeings
in_simple block (Get skip pairs p) = in_pairs block pairs
in_simple block (Put skip pairs p) = in_pairs block pairs
in_simple block _ = []

-- how many blocks begin in a list
abbrev mutual
  pub begun_in : Items → ℕ
  begun_in NoItem = 0
  begun_in (ItemThen i is) = begun_in_item i + begun_in is

  pub begun_in_item : Item → ℕ
  begun_in_item (Procedure head body) = 1 + begun_in body
  begun_in_item (Statement labels s) = begun_in_stmt s
  begun_in_item _ = 0

  pub begun_in_stmt : Stmt → ℕ
  begun_in_stmt (If e unit p) = begun_in_stmt unit
  begun_in_stmt (IfElse e unit otherwise p) = begun_in_stmt unit + begun_in_stmt otherwise
  begun_in_stmt (Do body p) = begun_in body
  begun_in_stmt (DoWhile e body p) = begun_in body
  begun_in_stmt (DoCount c body p) = begun_in body
  begun_in_stmt (Begin body p) = 1 + begun_in body
  begun_in_stmt (OnUnit c unit p) = begun_in_stmt unit
  begun_in_stmt _ = 0

-- in the block with this number, where the next block that begins has the number behind it
abbrev mutual
  pub in_items : ℕ → ℕ → Items → List Mention
  in_items block next NoItem = []
  in_items block next (ItemThen i is) = in_item block next i ++ in_items block (next + begun_in_item i) is

  pub in_item : ℕ → ℕ → Item → List Mention
  in_item block next (Procedure head body) = map (written next []) head.parameters ++ in_items next (next + 1) body
  in_item block next (Declare items p) = in_declare block [] items
  in_item block next (Statement labels s) = in_stmt block next s
  in_item block next (EndLabels labels p) = []

  pub in_stmt : ℕ → ℕ → Stmt → List Mention
  in_stmt block next (If e unit p) = in_expr block e ++ in_stmt block next unit
  in_stmt block next (IfElse e unit otherwise p) =
      in_expr block e ++ (in_stmt block next unit ++ in_stmt block (next + begun_in_stmt unit) otherwise)
  in_stmt block next (Do body p) = in_items block next body
  in_stmt block next (DoWhile e body p) = in_expr block e ++ in_items block next body
  in_stmt block next (DoCount c body p) = in_counting block c ++ in_items block next body
  in_stmt block next (Begin body p) = in_items next (next + 1) body
  in_stmt block next (OnUnit c unit p) = in_stmt block next unit
  in_stmt block next s = in_simple block s

-- a whole program, whose outer procedures stand in block 0
abbrev pub mentions : Tree → List Mention
mentions tree = in_items 0 1 tree.procedures
