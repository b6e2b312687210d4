-- GOTO to a label of a list that is carried out around it, in the block's own frame.
use Rattle.std.proofs.Common.{◌≡◌, ℕ, ◌^◌, ◌<◌, ◌≤◌, [], ◌∷◌, ◌++◌, List, Bool, true, refl, sym, ap, ◌∙◌, subst, arith}
use Rattle.std.specs.Prelude.{cond}
use Rattle.std.proofs.lemmas.Bool.{eq-eqb}
use Rattle.rv_meaning.specs.declared.instr.Instr.{Instr}
use Rattle.pli_typing.specs.TypedTree as Y
use Rattle.pli_meaning.specs.World.{counted}
use Rattle.pli_meaning.specs.DeclaredShapes.{variables_of_block}
use Rattle.pli_meaning.specs.StorageState.{with_world, ancestor_at, height_of}
use Rattle.pli_meaning.specs.Control.{Label, Jump, Meaning, act, looked, jumps, is_among, ◌>>=◌, ◌>>◌}
use Rattle.pli_meaning.specs.Raising.{Around}
use Rattle.pli_meaning.specs.Executing as M
use Rattle.pli_coding.specs.Assembly.{LabelPlace, JumpTo}
use Rattle.pli_coding.specs.Frames.{fixed_size, frame_end}
use Rattle.pli_coding.specs.Allocating.{act_code}
use Rattle.pli_coding.specs.Environments.{Owner, BlockOwner, UnitOwner, BlockPlace, Environment, block_around, last_of_level}
use Rattle.pli_coding.specs.Statements.{goto_outer, goto_code, stmt_code}
use Rattle.pli_coding.specs.Linking.{Links}
use Rattle.pli_headline.specs.ProvedSoFar.{Names, Types, times}
use Rattle.pli_headline.proofs.InnerLevels.{IsAmong}
use Rattle.pli_headline.proofs.Activations.{own_is}
use Rattle.run_steps.proofs.Linking.{size_append}
use Rattle.run_steps.proofs.Jumps.{front_of, back_of, jump_piece}
use Rattle.run_steps.proofs.Temporaries.{stays_same}
use Rattle.pli_headline.proofs.Acts.{acted, act_to}
use Rattle.pli_headline.proofs.Statements.{owner_level, IsOwned, Block, counted_all, IsMarkedOnce, IsEndMarkedOnce, Does}
use Rattle.pli_headline.proofs.Ifs.{free_far}
use Rattle.run_steps.specs.Reach.{Comes}
use Rattle.run_steps.proofs.Reach.{before_closed, comes_on, onward}

abbrev pub owner_number : Owner → ℕ
owner_number (BlockOwner b) = b.number
owner_number UnitOwner = 0

-- the labels of the program's blocks: each that stands once among them is marked once, and each block is the one that a GOTO of its level
-- names; in the main procedure and its blocks that is what a RETURN ends, and its end is marked once too; the frames of blocks that
-- declare nothing hold no more than is fixed
pub record LabelsStand (e : Environment) (links : Links) (all : List (ℕ × Label)) (procedure : ℕ) (main : Bool) : Type 0 where
  pub own : block_around e e.level ≡ e.block
  pub found : (b : BlockPlace) → IsAmong b e.blocks → last_of_level b.number b.level 0 e.blocks ≡ b.number
  pub once : (block : ℕ) (label : Label) → times block label all ≡ 1 → IsMarkedOnce links block label
  pub owner : main ≡ true → e.owner ≡ BlockOwner (record { number = procedure; level = 0 })
  pub ended : main ≡ true → IsEndMarkedOnce links procedure
  pub lower : owner_level e.owner ≤ e.level
  pub owned : IsOwned e.owner
  pub shallow : e.level ≤ 100
  pub bare : (number level : ℕ) → variables_of_block e.program number ≡ [] → frame_end e.parts e.program number level ≡ fixed_size level 0

-- the act leaves no credits to count, so the label may stand anywhere
own_goto_does : {e : Environment} {block : Names} {types : Types} (bl : Block e block types) (links : Links) (code : List Instr) (around : Around) (label : Label) (line : ℕ) → line < 2 ^ 31 → is_among label bl.labels ≡ true → IsMarkedOnce links e.block label → Does bl links code around.turns (act_code line ++ JumpTo (LabelPlace e.block label) ∷ []) (M.statement around (Y.Goto e.level label line))
unfolding M.statement looked jumps ◌>>=◌ ◌>>◌
own_goto_does {e} {block} {types} bl links code around label line fits among once =
    record {
      does = λ {i} {s} {v} {h} {t} {aims} closed old n f k l serving all at goal more.
          let a = act_code line in
          let symbol = LabelPlace e.block label in
          let c = JumpTo symbol ∷ [] in
          let o = more.jumps label among once in
          let size = size_append a c in
          let inside = l.inside in
          let later = o.later in
          let next' : Unit {0} → Meaning (Unit {0}) = λ u. looked >>= (λ s'. jumps (height_of (ancestor_at s' e.level)) label) in
          comes_on k (act counted k s) next'
          (act_to (before_closed k next' closed) i 0 f line old k fits (omega (arith, inside, size)) (front_of a c l) serving at
          (λ f1 serving1 at1.
          let s1 = with_world (counted s.world) s in
          subst (λ height. Comes code 0 f1 (acted line v) aims (Jump height label s1)) (sym (own_is s1.activations v.activations e.level bl.depths serving1.nested all.entered))
          (onward closed (jump_piece 0 o.at f1 symbol o.at (omega (arith, later)) o.place o.near free_far (back_of a c l) at1)
          (λ f2 at2.
          record {
            to = λ early.
                o.lands s1 (acted line v) line n h t f2 serving1 (counted_all _ all) (stays_same bl.taken h t) (omega arith) at2;
          }))));
    }

own_goto_code : (e : Environment) (label : Label) → block_around e e.level ≡ e.block → JumpTo (LabelPlace e.block label) ∷ [] ≡ goto_code e e.level label
own_goto_code e label own =
    ap (λ b. JumpTo (LabelPlace b label) ∷ []) (sym own)
    ∙ ap (λ q. cond q [] (goto_outer e e.level) ++ JumpTo (LabelPlace (block_around e e.level) label) ∷ []) (sym (eq-eqb e.level e.level refl))

pub goto_does : {e : Environment} {block : Names} {types : Types} (bl : Block e block types) (links : Links) (code : List Instr) (around : Around) (level : ℕ) (label : Label) (line : ℕ) → level ≡ e.level → line < 2 ^ 31 → is_among label bl.labels ≡ true → IsMarkedOnce links e.block label → block_around e e.level ≡ e.block → Does bl links code around.turns (stmt_code e bl.taken (Y.Goto level label line)) (M.statement around (Y.Goto level label line))
goto_does {e} bl links code around level label line same fits among once own =
    subst (λ n. Does bl links code around.turns (stmt_code e bl.taken (Y.Goto n label line)) (M.statement around (Y.Goto n label line))) (sym same)
    (subst (λ c. Does bl links code around.turns (act_code line ++ c) (M.statement around (Y.Goto e.level label line))) (own_goto_code e label own)
    (own_goto_does bl links code around label line fits among once))
