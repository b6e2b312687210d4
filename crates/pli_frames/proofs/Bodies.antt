-- Statements by their forms: what they take, and the blocks in them.
use Rattle.std.proofs.Common.{◌≡◌, ℕ, zero, suc, ◌+◌, ◌<◌, List, [], ◌∷◌, ◌++◌, length, map, drop, get_or, refl, sym, ap, ◌∙◌, arith, append_assoc, append-nil, length-append}
use Rattle.std.specs.Prelude.{slice_set}
use Rattle.std.proofs.lemmas.List.{length-map, map_push}
use Rattle.std.proofs.Math.Seq.{set-append_seam}
use Rattle.pli_typing.specs.declared.statement.Stmt as S
use Rattle.pli_typing.specs.declared.statement.Stmts as L
use Rattle.pli_typing.specs.declared.statement.Procedure.{Procedure}
use Rattle.pli_typing.specs.TypedTree as Y
use Rattle.pli_typing.specs.SingleStatements.{Turns, OneTurn, CountedTurns, do_statement}
use Rattle.pli_typing.specs.TypedView.{arguments_of, bit_of, reference_of, stored_of}
use Rattle.pli_typing.specs.TypedStatementView.{allocation_of, block_head_of, freeing_of, get_pair_of, procedure_of, put_pair_of, stmt_of, stmts_of, turns_of}
use Rattle.pli_coding.specs.Environments.{Taken, most_taken, with_words}
use Rattle.pli_coding.specs.Expressions.{list_words}
use Rattle.pli_coding.specs.Temporaries.{arguments_take, bit_takes, stored_takes}
use Rattle.pli_coding.specs.Storing.{aggregate_takes, assigned_takes, elements_takes}
use Rattle.pli_coding.specs.Allocating.{allocations_take, freeings_take}
use Rattle.pli_coding.specs.Streams.{get_takes, put_takes}
use Rattle.pli_coding.specs.Statements.{stmt_takes, stmts_take}
use Rattle.pli_frames.specs.declared.body.BlockWords.{BlockWords as BlockWordsHeld}
use Rattle.pli_frames.specs.Blocks as shown
use Rattle.pli_frames.specs.Blocks.{BlockWords, block_words_of, blocks_in, blocks_among, blocks_of}
use Rattle.pli_frames.specs.Turns.{behind_turns, turns_take}
use Rattle.pli_frames.proofs.Most.{one_more, none_left, shown_from}

do_takes : (k : Taken) (t : Turns) (body : Y.Stmts) (n : ℕ)
    → stmt_takes k (do_statement t body n) ≡ turns_take k t (stmts_take (behind_turns t k) body)
do_takes k (OneTurn r s b) body n = refl
do_takes k (CountedTurns c s l step b) body n = refl

turns_hold : (t : Turns) (body : Y.Stmts) (n : ℕ) → blocks_in (do_statement t body n) ≡ blocks_among body
turns_hold (OneTurn r s b) body n = refl
turns_hold (CountedTurns c s l step b) body n = refl

pub takes-Null : (k : _) (n : _) → stmt_takes k (stmt_of (S.Null n)) ≡ k
unfolding stmt_of
takes-Null k n = refl

pub blocks-Null : (n : _) → blocks_in (stmt_of (S.Null n)) ≡ []
unfolding stmt_of
blocks-Null n = refl

pub takes-Assign : (k : _) (r : _) (s : _) (n : _) → stmt_takes k (stmt_of (S.Assign r s n))
    ≡ assigned_takes k (reference_of r) (stored_of s)
unfolding stmt_of
takes-Assign k r s n = refl

pub blocks-Assign : (r : _) (s : _) (n : _) → blocks_in (stmt_of (S.Assign r s n)) ≡ []
unfolding stmt_of
blocks-Assign r s n = refl

pub takes-AssignElements : (k : _) (r : _) (s : _) (n : _) → stmt_takes k (stmt_of (S.AssignElements r s n))
    ≡ elements_takes k (reference_of r) (stored_of s)
unfolding stmt_of
takes-AssignElements k r s n = refl

pub blocks-AssignElements : (r : _) (s : _) (n : _) → blocks_in (stmt_of (S.AssignElements r s n)) ≡ []
unfolding stmt_of
blocks-AssignElements r s n = refl

pub takes-AssignAggregate : (k : _) (r : _) (s : _) (n : _) → stmt_takes k (stmt_of (S.AssignAggregate r s n))
    ≡ most_taken (aggregate_takes k (reference_of r)) (aggregate_takes k (reference_of s))
unfolding stmt_of
takes-AssignAggregate k r s n = refl

pub blocks-AssignAggregate : (r : _) (s : _) (n : _) → blocks_in (stmt_of (S.AssignAggregate r s n)) ≡ []
unfolding stmt_of
blocks-AssignAggregate r s n = refl

pub takes-AssignArea : (k : _) (v : _) (w : _) (n : _) → stmt_takes k (stmt_of (S.AssignArea v w n)) ≡ k
unfolding stmt_of
takes-AssignArea k v w n = refl

pub blocks-AssignArea : (v : _) (w : _) (n : _) → blocks_in (stmt_of (S.AssignArea v w n)) ≡ []
unfolding stmt_of
blocks-AssignArea v w n = refl

pub takes-EmptyArea : (k : _) (v : _) (n : _) → stmt_takes k (stmt_of (S.EmptyArea v n)) ≡ k
unfolding stmt_of
takes-EmptyArea k v n = refl

pub blocks-EmptyArea : (v : _) (n : _) → blocks_in (stmt_of (S.EmptyArea v n)) ≡ []
unfolding stmt_of
blocks-EmptyArea v n = refl

pub takes-If : (k : _) (b : _) (a : _) (u : _) (n : _) → stmt_takes k (stmt_of (S.If' b a u n))
    ≡ most_taken (bit_takes k (bit_of b)) (stmt_takes k (stmt_of u))
unfolding stmt_of
takes-If k b a u n = refl

pub blocks-If : (b : _) (a : _) (u : _) (n : _) → blocks_in (stmt_of (S.If' b a u n)) ≡ blocks_in (stmt_of u)
unfolding stmt_of
blocks-If b a u n = refl

pub takes-IfElse : (k : _) (b : _) (a : _) (u : _) (c : _) (o : _) (n : _)
    → stmt_takes k (stmt_of (S.IfElse' b a u c o n))
    ≡ most_taken (bit_takes k (bit_of b)) (most_taken (stmt_takes k (stmt_of u)) (stmt_takes k (stmt_of o)))
unfolding stmt_of
takes-IfElse k b a u c o n = refl

pub blocks-IfElse : (b : _) (a : _) (u : _) (c : _) (o : _) (n : _) → blocks_in (stmt_of (S.IfElse' b a u c o n)) ≡ blocks_in (stmt_of u) ++ blocks_in (stmt_of o)
unfolding stmt_of
blocks-IfElse b a u c o n = refl

pub takes-Do : (k : _) (body : _) (n : _) → stmt_takes k (stmt_of (S.Do body n)) ≡ stmts_take k (stmts_of body)
unfolding stmt_of
takes-Do k body n = refl

pub blocks-Do : (body : _) (n : _) → blocks_in (stmt_of (S.Do body n)) ≡ blocks_among (stmts_of body)
unfolding stmt_of
blocks-Do body n = refl

pub takes-DoWhile : (k : _) (b : _) (body : _) (n : _) → stmt_takes k (stmt_of (S.DoWhile b body n))
    ≡ most_taken (bit_takes k (bit_of b)) (stmts_take k (stmts_of body))
unfolding stmt_of
takes-DoWhile k b body n = refl

pub blocks-DoWhile : (b : _) (body : _) (n : _) → blocks_in (stmt_of (S.DoWhile b body n)) ≡ blocks_among (stmts_of body)
unfolding stmt_of
blocks-DoWhile b body n = refl

pub takes-DoTurns : (k : _) (t : _) (body : _) (n : _) → stmt_takes k (stmt_of (S.DoTurns t body n))
    ≡ turns_take k (turns_of t) (stmts_take (behind_turns (turns_of t) k) (stmts_of body))
unfolding stmt_of
takes-DoTurns k t body n = do_takes k (turns_of t) (stmts_of body) n

pub blocks-DoTurns : (t : _) (body : _) (n : _) → blocks_in (stmt_of (S.DoTurns t body n)) ≡ blocks_among (stmts_of body)
unfolding stmt_of
blocks-DoTurns t body n = turns_hold (turns_of t) (stmts_of body) n

pub takes-Begin : (k : _) (h : _) (body : _) → stmt_takes k (stmt_of (S.Begin h body)) ≡ k
unfolding stmt_of
takes-Begin k h body = refl

pub blocks-Begin : (h : _) (body : _) → blocks_in (stmt_of (S.Begin h body))
    ≡ shown.with_words (block_head_of h) (stmts_of body) ∷ blocks_among (stmts_of body)
unfolding stmt_of
blocks-Begin h body = refl

pub takes-OnSystem : (k : _) (c : _) (n : _) → stmt_takes k (stmt_of (S.OnSystem c n)) ≡ k
unfolding stmt_of
takes-OnSystem k c n = refl

pub blocks-OnSystem : (c : _) (n : _) → blocks_in (stmt_of (S.OnSystem c n)) ≡ []
unfolding stmt_of
blocks-OnSystem c n = refl

pub takes-OnUnit : (k : _) (c : _) (h : _) (body : _) (n : _) → stmt_takes k (stmt_of (S.OnUnit c h body n)) ≡ k
unfolding stmt_of
takes-OnUnit k c h body n = refl

pub blocks-OnUnit : (c : _) (h : _) (body : _) (n : _) → blocks_in (stmt_of (S.OnUnit c h body n))
    ≡ shown.with_words (block_head_of h) (stmts_of body) ∷ blocks_among (stmts_of body)
unfolding stmt_of
blocks-OnUnit c h body n = refl

pub takes-Call : (k : _) (c : _) (n : _) → stmt_takes k (stmt_of (S.Call c n))
    ≡ arguments_take (with_words (list_words (arguments_of c.arguments)) k) (arguments_of c.arguments)
unfolding stmt_of
takes-Call k c n = refl

pub blocks-Call : (c : _) (n : _) → blocks_in (stmt_of (S.Call c n)) ≡ []
unfolding stmt_of
blocks-Call c n = refl

pub takes-Return : (k : _) (n : _) → stmt_takes k (stmt_of (S.Return n)) ≡ k
unfolding stmt_of
takes-Return k n = refl

pub blocks-Return : (n : _) → blocks_in (stmt_of (S.Return n)) ≡ []
unfolding stmt_of
blocks-Return n = refl

pub takes-ReturnValue : (k : _) (t : _) (s : _) (n : _) → stmt_takes k (stmt_of (S.ReturnValue t s n))
    ≡ stored_takes k (stored_of s)
unfolding stmt_of
takes-ReturnValue k t s n = refl

pub blocks-ReturnValue : (t : _) (s : _) (n : _) → blocks_in (stmt_of (S.ReturnValue t s n)) ≡ []
unfolding stmt_of
blocks-ReturnValue t s n = refl

pub takes-Goto : (k : _) (level : _) (label : _) (n : _) → stmt_takes k (stmt_of (S.Goto level label n)) ≡ k
unfolding stmt_of
takes-Goto k level label n = refl

pub blocks-Goto : (level : _) (label : _) (n : _) → blocks_in (stmt_of (S.Goto level label n)) ≡ []
unfolding stmt_of
blocks-Goto level label n = refl

pub takes-Stop : (k : _) (n : _) → stmt_takes k (stmt_of (S.Stop n)) ≡ k
unfolding stmt_of
takes-Stop k n = refl

pub blocks-Stop : (n : _) → blocks_in (stmt_of (S.Stop n)) ≡ []
unfolding stmt_of
blocks-Stop n = refl

pub takes-Signal : (k : _) (c : _) (n : _) → stmt_takes k (stmt_of (S.Signal c n)) ≡ k
unfolding stmt_of
takes-Signal k c n = refl

pub blocks-Signal : (c : _) (n : _) → blocks_in (stmt_of (S.Signal c n)) ≡ []
unfolding stmt_of
blocks-Signal c n = refl

pub takes-Revert : (k : _) (c : _) (n : _) → stmt_takes k (stmt_of (S.Revert c n)) ≡ k
unfolding stmt_of
takes-Revert k c n = refl

pub blocks-Revert : (c : _) (n : _) → blocks_in (stmt_of (S.Revert c n)) ≡ []
unfolding stmt_of
blocks-Revert c n = refl

pub takes-Allocate : (k : _) (all : _) (n : _) → stmt_takes k (stmt_of (S.Allocate all n))
    ≡ allocations_take k (map allocation_of all.items)
unfolding stmt_of
takes-Allocate k all n = refl

pub blocks-Allocate : (all : _) (n : _) → blocks_in (stmt_of (S.Allocate all n)) ≡ []
unfolding stmt_of
blocks-Allocate all n = refl

pub takes-Free : (k : _) (all : _) (n : _) → stmt_takes k (stmt_of (S.Free all n))
    ≡ freeings_take k (map freeing_of all.items)
unfolding stmt_of
takes-Free k all n = refl

pub blocks-Free : (all : _) (n : _) → blocks_in (stmt_of (S.Free all n)) ≡ []
unfolding stmt_of
blocks-Free all n = refl

pub takes-Get : (k : _) (skip : _) (pairs : _) (n : _) → stmt_takes k (stmt_of (S.Get skip pairs n))
    ≡ get_takes k (map get_pair_of pairs.items)
unfolding stmt_of
takes-Get k skip pairs n = refl

pub blocks-Get : (skip : _) (pairs : _) (n : _) → blocks_in (stmt_of (S.Get skip pairs n)) ≡ []
unfolding stmt_of
blocks-Get skip pairs n = refl

pub takes-Put : (k : _) (skip : _) (pairs : _) (n : _) → stmt_takes k (stmt_of (S.Put skip pairs n))
    ≡ put_takes k (map put_pair_of pairs.items)
unfolding stmt_of
takes-Put k skip pairs n = refl

pub blocks-Put : (skip : _) (pairs : _) (n : _) → blocks_in (stmt_of (S.Put skip pairs n)) ≡ []
unfolding stmt_of
blocks-Put skip pairs n = refl

pub list_takes-End : (k : _) (labels : _) → stmts_take k (stmts_of (L.End labels)) ≡ k
unfolding stmts_of
list_takes-End k labels = refl

pub list_blocks-End : (labels : _) → blocks_among (stmts_of (L.End labels)) ≡ []
unfolding stmts_of
list_blocks-End labels = refl

pub list_takes-More : (k : _) (labels : _) (a : _) (s : _) (b : _) (rest : _)
    → stmts_take k (stmts_of (L.More' labels a s b rest))
    ≡ most_taken (stmt_takes k (stmt_of s)) (stmts_take k (stmts_of rest))
unfolding stmts_of
list_takes-More k labels a s b rest = refl

pub list_blocks-More : (labels : _) (a : _) (s : _) (b : _) (rest : _) → blocks_among (stmts_of (L.More' labels a s b rest)) ≡ blocks_in (stmt_of s) ++ blocks_among (stmts_of rest)
unfolding stmts_of
list_blocks-More labels a s b rest = refl

-- ---- a block whose words are put in their place behind it

map_set : (xs : List BlockWordsHeld) (i : ℕ) (x : BlockWordsHeld) → map block_words_of (slice_set xs i x) ≡ slice_set (map block_words_of xs) i (block_words_of x)
map_set [] i x = refl
map_set (y ∷ xs) zero x = refl
map_set (y ∷ xs) (suc i) x = ap (λ u. block_words_of y ∷ u) (map_set xs i x)

pub block_within : (old now : List BlockWordsHeld) (x : BlockWords) (inner : List BlockWords) → map block_words_of now ≡ map block_words_of old ++ (x ∷ inner) → length old < length now
block_within old now x inner e =
    let a : length now ≡ length (map block_words_of old ++ (x ∷ inner)) = sym (length-map now block_words_of) ∙ ap length e in
    let b : length (map block_words_of old ++ (x ∷ inner)) ≡ length (map block_words_of old) + length (x ∷ inner) = length-append (map block_words_of old) (x ∷ inner) in
    let c : length (map block_words_of old) ≡ length old = length-map old block_words_of in
    omega arith

pub block_put : (old now : List BlockWordsHeld) (x : BlockWords) (y : BlockWordsHeld) (inner : List BlockWords) → map block_words_of now ≡ map block_words_of old ++ (x ∷ inner) → map block_words_of (slice_set now (length old) y) ≡ map block_words_of old ++ (block_words_of y ∷ inner)
block_put old now x y inner e =
    map_set now (length old) y
    ∙ ap (λ u. slice_set u (length old) (block_words_of y)) e
    ∙ ap (λ k. slice_set (map block_words_of old ++ (x ∷ inner)) k (block_words_of y)) (sym (length-map old block_words_of))
    ∙ set-append_seam (map block_words_of old) x inner (block_words_of y)

-- the blocks behind one more, that is pushed
pub behind_pushed : (old pushed now : List BlockWordsHeld) (x : BlockWordsHeld) (inner : List BlockWords) → pushed ≡ old ++ x ∷ [] → map block_words_of now ≡ map block_words_of pushed ++ inner → map block_words_of now ≡ map block_words_of old ++ (block_words_of x ∷ inner)
behind_pushed old pushed now x inner p e =
    e ∙ ap (λ u. u ++ inner) (ap (map block_words_of) p ∙ map_push block_words_of old x) ∙ append_assoc (map block_words_of old) (block_words_of x ∷ []) inner

pub block_room : (old pushed now : List BlockWordsHeld) (x : BlockWordsHeld) (inner : List BlockWords) → pushed ≡ old ++ x ∷ [] → map block_words_of now ≡ map block_words_of pushed ++ inner → length old < length now
block_room old pushed now x inner p e = block_within old now (block_words_of x) inner (behind_pushed old pushed now x inner p e)

pub block_whole : (old pushed now : List BlockWordsHeld) (x y : BlockWordsHeld) (inner : List BlockWords) → pushed ≡ old ++ x ∷ [] → map block_words_of now ≡ map block_words_of pushed ++ inner → map block_words_of (slice_set now (length old) y) ≡ map block_words_of old ++ (block_words_of y ∷ inner)
block_whole old pushed now x y inner p e = block_put old now (block_words_of x) y inner (behind_pushed old pushed now x inner p e)

-- the blocks of one more procedure
pub next_procedure : (xs : List Procedure) (i : ℕ) (x : Procedure) (now next target : List BlockWords) → i < length xs
    → x ≡ get_or xs i x
    → next ≡ now
    ++ (shown.with_words (block_head_of x.block.head) (stmts_of x.block.body) ∷ blocks_among (stmts_of x.block.body))
    → now ++ blocks_of (map procedure_of (drop i xs)) ≡ target
    → next ++ blocks_of (map procedure_of (drop (i + 1) xs)) ≡ target
next_procedure xs i x now next target h e n is =
    let here : List BlockWords =
    shown.with_words (block_head_of x.block.head) (stmts_of x.block.body) ∷ blocks_among (stmts_of x.block.body) in
    ap (λ u. u ++ blocks_of (map procedure_of (drop (i + 1) xs))) n
    ∙ append_assoc now here (blocks_of (map procedure_of (drop (i + 1) xs)))
    ∙ ap (λ u. now ++ blocks_of u) (sym (shown_from procedure_of xs i x h e))
    ∙ is

pub ruleset bodies = (
  one_more,
  none_left,
  append_assoc,
  append-nil,
  takes-Null,
  blocks-Null,
  takes-Assign,
  blocks-Assign,
  takes-AssignElements,
  blocks-AssignElements,
  takes-AssignAggregate,
  blocks-AssignAggregate,
  takes-AssignArea,
  blocks-AssignArea,
  takes-EmptyArea,
  blocks-EmptyArea,
  takes-If,
  blocks-If,
  takes-IfElse,
  blocks-IfElse,
  takes-Do,
  blocks-Do,
  takes-DoWhile,
  blocks-DoWhile,
  takes-DoTurns,
  blocks-DoTurns,
  takes-Begin,
  blocks-Begin,
  takes-OnSystem,
  blocks-OnSystem,
  takes-OnUnit,
  blocks-OnUnit,
  takes-Call,
  blocks-Call,
  takes-Return,
  blocks-Return,
  takes-ReturnValue,
  blocks-ReturnValue,
  takes-Goto,
  blocks-Goto,
  takes-Stop,
  blocks-Stop,
  takes-Signal,
  blocks-Signal,
  takes-Revert,
  blocks-Revert,
  takes-Allocate,
  blocks-Allocate,
  takes-Free,
  blocks-Free,
  takes-Get,
  blocks-Get,
  takes-Put,
  blocks-Put,
  list_takes-End,
  list_blocks-End,
  list_takes-More,
  list_blocks-More,
)
