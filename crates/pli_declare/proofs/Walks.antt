-- What a program's tree declares, and the blocks in it, one equation for each variant.
use Rattle.std.proofs.Common.{◌≡◌, ◌++◌, ◌∷◌, [], ◌+◌, map, length, refl, append_assoc, append-nil, ◌≤◌, arith, rules}
use Rattle.std.specs.Prelude.{Some, None, ℕ, List}
use Rattle.pli_language.specs.declared.stmt.Stmt.{Stmt as StmtHeld}
use Rattle.pli_language.specs.declared.stmt.Stmt as S
use Rattle.pli_language.specs.declared.stmt.Item as I
use Rattle.pli_language.specs.declared.stmt.Items as J
use Rattle.pli_language.specs.declared.stmt.Items.{size-Items}
use Rattle.pli_language.specs.View.{name_of, declare_item_of, procedure_head_of, stmt_of, item_of, items_of}
use Rattle.pli_language.specs.Declarations.{declared_in, declared_in_item, declared_in_stmt, declared_by, labels_declared, procedure_declared, blocks_in, blocks_in_item, blocks_in_stmt}

pub declared-Null : (p : _) → declared_in_stmt (stmt_of (S.Null p)) ≡ []
unfolding declared_in_stmt stmt_of
declared-Null p = refl

pub declared-Assign : (r : _) (e : _) (p : _) → declared_in_stmt (stmt_of (S.Assign r e p)) ≡ []
unfolding declared_in_stmt stmt_of
declared-Assign r e p = refl

pub declared-If : (e : _) (a : _) (u : _) (p : _) → declared_in_stmt (stmt_of (S.If' e a u p)) ≡ declared_in_stmt (stmt_of u)
unfolding declared_in_stmt stmt_of
declared-If e a u p = refl

pub declared-IfElse : (e : _) (a : _) (u : _) (b : _) (o : _) (p : _) → declared_in_stmt (stmt_of (S.IfElse' e a u b o p)) ≡ declared_in_stmt (stmt_of u) ++ declared_in_stmt (stmt_of o)
unfolding declared_in_stmt stmt_of
declared-IfElse e a u b o p = refl

pub declared-Do : (b : _) (p : _) → declared_in_stmt (stmt_of (S.Do b p)) ≡ declared_in (items_of b)
unfolding declared_in_stmt stmt_of
declared-Do b p = refl

pub declared-DoWhile : (e : _) (b : _) (p : _) → declared_in_stmt (stmt_of (S.DoWhile e b p)) ≡ declared_in (items_of b)
unfolding declared_in_stmt stmt_of
declared-DoWhile e b p = refl

pub declared-DoCount : (c : _) (b : _) (p : _) → declared_in_stmt (stmt_of (S.DoCount c b p)) ≡ declared_in (items_of b)
unfolding declared_in_stmt stmt_of
declared-DoCount c b p = refl

pub declared-Begin : (b : _) (p : _) → declared_in_stmt (stmt_of (S.Begin b p)) ≡ []
unfolding declared_in_stmt stmt_of
declared-Begin b p = refl

pub declared-OnSystem : (c : _) (p : _) → declared_in_stmt (stmt_of (S.OnSystem c p)) ≡ []
unfolding declared_in_stmt stmt_of
declared-OnSystem c p = refl

pub declared-OnUnit : (c : _) (a : _) (u : _) (p : _) → declared_in_stmt (stmt_of (S.OnUnit' c a u p)) ≡ declared_in_stmt (stmt_of u)
unfolding declared_in_stmt stmt_of
declared-OnUnit c a u p = refl

pub declared-Call : (n : _) (a : _) (p : _) → declared_in_stmt (stmt_of (S.Call n a p)) ≡ []
unfolding declared_in_stmt stmt_of
declared-Call n a p = refl

pub declared-Return : (e : _) (p : _) → declared_in_stmt (stmt_of (S.Return e p)) ≡ []
unfolding declared_in_stmt stmt_of
declared-Return e p = refl

pub declared-Goto : (n : _) (p : _) → declared_in_stmt (stmt_of (S.Goto n p)) ≡ []
unfolding declared_in_stmt stmt_of
declared-Goto n p = refl

pub declared-Stop : (p : _) → declared_in_stmt (stmt_of (S.Stop p)) ≡ []
unfolding declared_in_stmt stmt_of
declared-Stop p = refl

pub declared-Signal : (c : _) (p : _) → declared_in_stmt (stmt_of (S.Signal c p)) ≡ []
unfolding declared_in_stmt stmt_of
declared-Signal c p = refl

pub declared-Revert : (c : _) (p : _) → declared_in_stmt (stmt_of (S.Revert c p)) ≡ []
unfolding declared_in_stmt stmt_of
declared-Revert c p = refl

pub declared-Allocate : (m : _) (p : _) → declared_in_stmt (stmt_of (S.Allocate m p)) ≡ []
unfolding declared_in_stmt stmt_of
declared-Allocate m p = refl

pub declared-Free : (f : _) (p : _) → declared_in_stmt (stmt_of (S.Free f p)) ≡ []
unfolding declared_in_stmt stmt_of
declared-Free f p = refl

pub declared-Get : (n : _) (l : _) (p : _) → declared_in_stmt (stmt_of (S.Get n l p)) ≡ []
unfolding declared_in_stmt stmt_of
declared-Get n l p = refl

pub declared-Put : (n : _) (l : _) (p : _) → declared_in_stmt (stmt_of (S.Put n l p)) ≡ []
unfolding declared_in_stmt stmt_of
declared-Put n l p = refl

pub declared-Procedure : (h : _) (b : _) → declared_in_item (item_of (I.Procedure h b)) ≡ procedure_declared (procedure_head_of h)
unfolding declared_in_item item_of
declared-Procedure h b = refl

pub declared-Declare : (d : _) (p : _) → declared_in_item (item_of (I.Declare d p)) ≡ declared_by (map declare_item_of d.items)
unfolding declared_in_item item_of
declared-Declare d p = refl

pub declared-Statement : (l : _) (s : _) → declared_in_item (item_of (I.Statement l s)) ≡ labels_declared (map name_of l.items) ++ declared_in_stmt (stmt_of s)
unfolding declared_in_item item_of
declared-Statement l s = refl

pub declared-EndLabels : (l : _) (p : _) → declared_in_item (item_of (I.EndLabels l p)) ≡ labels_declared (map name_of l.items)
unfolding declared_in_item item_of
declared-EndLabels l p = refl

pub declared-End : declared_in (items_of J.End) ≡ []
unfolding declared_in items_of
declared-End = refl

pub declared-More : (a : _) (i : _) (b : _) (r : _) → declared_in (items_of (J.More' a i b r)) ≡ declared_in_item (item_of i) ++ declared_in (items_of r)
unfolding declared_in items_of
declared-More a i b r = refl

pub ruleset declarations = (declared-Null, declared-Assign, declared-If, declared-IfElse, declared-Do, declared-DoWhile, declared-DoCount, declared-Begin, declared-OnSystem, declared-OnUnit, declared-Call, declared-Return, declared-Goto, declared-Stop, declared-Signal, declared-Revert, declared-Allocate, declared-Free, declared-Get, declared-Put, declared-Procedure, declared-Declare, declared-Statement, declared-EndLabels, declared-End, declared-More, append_assoc, append-nil)

pub blocks-Null : (around : List ℕ) (next : ℕ) (p : _) → blocks_in_stmt around next (stmt_of (S.Null p)) ≡ []
unfolding blocks_in_stmt stmt_of
blocks-Null around next p = refl

pub blocks-Assign : (around : List ℕ) (next : ℕ) (r : _) (e : _) (p : _) → blocks_in_stmt around next (stmt_of (S.Assign r e p)) ≡ []
unfolding blocks_in_stmt stmt_of
blocks-Assign around next r e p = refl

pub blocks-If : (around : List ℕ) (next : ℕ) (e : _) (a : _) (u : _) (p : _) → blocks_in_stmt around next (stmt_of (S.If' e a u p)) ≡ blocks_in_stmt around next (stmt_of u)
unfolding blocks_in_stmt stmt_of
blocks-If around next e a u p = refl

pub blocks-IfElse : (around : List ℕ) (next : ℕ) (e : _) (a : _) (u : _) (b : _) (o : _) (p : _) → blocks_in_stmt around next (stmt_of (S.IfElse' e a u b o p)) ≡ blocks_in_stmt around next (stmt_of u) ++ blocks_in_stmt around (next + length (blocks_in_stmt around next (stmt_of u))) (stmt_of o)
unfolding blocks_in_stmt stmt_of
blocks-IfElse around next e a u b o p = refl

pub blocks-Do : (around : List ℕ) (next : ℕ) (b : _) (p : _) → blocks_in_stmt around next (stmt_of (S.Do b p)) ≡ blocks_in around next (items_of b)
unfolding blocks_in_stmt stmt_of
blocks-Do around next b p = refl

pub blocks-DoWhile : (around : List ℕ) (next : ℕ) (e : _) (b : _) (p : _) → blocks_in_stmt around next (stmt_of (S.DoWhile e b p)) ≡ blocks_in around next (items_of b)
unfolding blocks_in_stmt stmt_of
blocks-DoWhile around next e b p = refl

pub blocks-DoCount : (around : List ℕ) (next : ℕ) (c : _) (b : _) (p : _) → blocks_in_stmt around next (stmt_of (S.DoCount c b p)) ≡ blocks_in around next (items_of b)
unfolding blocks_in_stmt stmt_of
blocks-DoCount around next c b p = refl

pub blocks-Begin : (around : List ℕ) (next : ℕ) (b : _) (p : _) → blocks_in_stmt around next (stmt_of (S.Begin b p)) ≡ record { around = next ∷ around; head = None; declarations = declared_in (items_of b) } ∷ blocks_in (next ∷ around) (next + 1) (items_of b)
unfolding blocks_in_stmt stmt_of
blocks-Begin around next b p = refl

pub blocks-OnSystem : (around : List ℕ) (next : ℕ) (c : _) (p : _) → blocks_in_stmt around next (stmt_of (S.OnSystem c p)) ≡ []
unfolding blocks_in_stmt stmt_of
blocks-OnSystem around next c p = refl

pub blocks-OnUnit : (around : List ℕ) (next : ℕ) (c : _) (a : _) (u : _) (p : _) → blocks_in_stmt around next (stmt_of (S.OnUnit' c a u p)) ≡ blocks_in_stmt around next (stmt_of u)
unfolding blocks_in_stmt stmt_of
blocks-OnUnit around next c a u p = refl

pub blocks-Call : (around : List ℕ) (next : ℕ) (n : _) (a : _) (p : _) → blocks_in_stmt around next (stmt_of (S.Call n a p)) ≡ []
unfolding blocks_in_stmt stmt_of
blocks-Call around next n a p = refl

pub blocks-Return : (around : List ℕ) (next : ℕ) (e : _) (p : _) → blocks_in_stmt around next (stmt_of (S.Return e p)) ≡ []
unfolding blocks_in_stmt stmt_of
blocks-Return around next e p = refl

pub blocks-Goto : (around : List ℕ) (next : ℕ) (n : _) (p : _) → blocks_in_stmt around next (stmt_of (S.Goto n p)) ≡ []
unfolding blocks_in_stmt stmt_of
blocks-Goto around next n p = refl

pub blocks-Stop : (around : List ℕ) (next : ℕ) (p : _) → blocks_in_stmt around next (stmt_of (S.Stop p)) ≡ []
unfolding blocks_in_stmt stmt_of
blocks-Stop around next p = refl

pub blocks-Signal : (around : List ℕ) (next : ℕ) (c : _) (p : _) → blocks_in_stmt around next (stmt_of (S.Signal c p)) ≡ []
unfolding blocks_in_stmt stmt_of
blocks-Signal around next c p = refl

pub blocks-Revert : (around : List ℕ) (next : ℕ) (c : _) (p : _) → blocks_in_stmt around next (stmt_of (S.Revert c p)) ≡ []
unfolding blocks_in_stmt stmt_of
blocks-Revert around next c p = refl

pub blocks-Allocate : (around : List ℕ) (next : ℕ) (m : _) (p : _) → blocks_in_stmt around next (stmt_of (S.Allocate m p)) ≡ []
unfolding blocks_in_stmt stmt_of
blocks-Allocate around next m p = refl

pub blocks-Free : (around : List ℕ) (next : ℕ) (f : _) (p : _) → blocks_in_stmt around next (stmt_of (S.Free f p)) ≡ []
unfolding blocks_in_stmt stmt_of
blocks-Free around next f p = refl

pub blocks-Get : (around : List ℕ) (next : ℕ) (n : _) (l : _) (p : _) → blocks_in_stmt around next (stmt_of (S.Get n l p)) ≡ []
unfolding blocks_in_stmt stmt_of
blocks-Get around next n l p = refl

pub blocks-Put : (around : List ℕ) (next : ℕ) (n : _) (l : _) (p : _) → blocks_in_stmt around next (stmt_of (S.Put n l p)) ≡ []
unfolding blocks_in_stmt stmt_of
blocks-Put around next n l p = refl

pub blocks-Procedure : (around : List ℕ) (next : ℕ) (h : _) (b : _) → blocks_in_item around next (item_of (I.Procedure h b)) ≡ record { around = next ∷ around; head = Some (procedure_head_of h); declarations = declared_in (items_of b) } ∷ blocks_in (next ∷ around) (next + 1) (items_of b)
unfolding blocks_in_item item_of
blocks-Procedure around next h b = refl

pub blocks-Declare : (around : List ℕ) (next : ℕ) (d : _) (p : _) → blocks_in_item around next (item_of (I.Declare d p)) ≡ []
unfolding blocks_in_item item_of
blocks-Declare around next d p = refl

pub blocks-Statement : (around : List ℕ) (next : ℕ) (l : _) (s : _) → blocks_in_item around next (item_of (I.Statement l s)) ≡ blocks_in_stmt around next (stmt_of s)
unfolding blocks_in_item item_of
blocks-Statement around next l s = refl

pub blocks-EndLabels : (around : List ℕ) (next : ℕ) (l : _) (p : _) → blocks_in_item around next (item_of (I.EndLabels l p)) ≡ []
unfolding blocks_in_item item_of
blocks-EndLabels around next l p = refl

pub blocks-End : (around : List ℕ) (next : ℕ) → blocks_in around next (items_of J.End) ≡ []
unfolding blocks_in items_of
blocks-End around next = refl

pub blocks-More : (around : List ℕ) (next : ℕ) (a : _) (i : _) (b : _) (r : _) → blocks_in around next (items_of (J.More' a i b r)) ≡ blocks_in_item around next (item_of i) ++ blocks_in around (next + length (blocks_in_item around next (item_of i))) (items_of r)
unfolding blocks_in items_of
blocks-More around next a i b r = refl

pub ruleset blocks = (blocks-Null, blocks-Assign, blocks-If, blocks-IfElse, blocks-Do, blocks-DoWhile, blocks-DoCount, blocks-Begin, blocks-OnSystem, blocks-OnUnit, blocks-Call, blocks-Return, blocks-Goto, blocks-Stop, blocks-Signal, blocks-Revert, blocks-Allocate, blocks-Free, blocks-Get, blocks-Put, blocks-Procedure, blocks-Declare, blocks-Statement, blocks-EndLabels, blocks-End, blocks-More, append_assoc, append-nil)
