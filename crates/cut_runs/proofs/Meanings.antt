-- Meanings at rising numbers of acts, and runs of images that are shown to mean them.
use Rattle.std.proofs.Common.{◌≡◌, ℕ, zero, suc, ◌+◌, ◌-◌, ◌≤◌, List, Some, sym, ap, ◌∙◌, subst, arith}
use Rattle.pli_typing.specs.Resolving.{typed_tree}
use Rattle.pli_typing.specs.TypedTree as Y
use Rattle.pli_meaning.specs.Executing.{meaning}
use Rattle.pli_meaning.specs.Laws.{StorageGrows}
use Rattle.pli_meaning.specs.World.{World}
use Rattle.well_formed_trees.specs.WellFormed.{IsWellFormed, AcceptedWellFormed}
use Rattle.meaning_runs.specs.Present.{MeaningThere}
use Rattle.cut_runs.specs.Fronts.{GoesOn, MeaningsContinue, CutRunsMeant, AcceptedCutRunsMeant}
use Rattle.cut_runs.proofs.Extending.{extends_refl, extends_trans, same_world}

on : StorageGrows → MeaningThere → (program : Y.Program) (input : List ℕ) (k n : ℕ) (w : World) → IsWellFormed program →
    meaning program input k ≡ Some w → GoesOn program input w (k + n)
on grow there program input k zero w formed e =
    record {
      world = w;
      meant = ap (meaning program input) (no_more k) ∙ e;
      extends = extends_refl w;
    }
  where
    no_more : (k : ℕ) → k + 0 ≡ k
    no_more k = omega arith
on grow there program input k (suc n) w formed e =
    let before = on grow there program input k n w formed e in
    let next = there program input (suc (k + n)) formed in
    record {
      world = next.world;
      meant = ap (meaning program input) (one_more k n) ∙ next.meant;
      extends =
          extends_trans before.extends
          (grow program input (k + n) before.world next.world before.meant next.meant);
    }
  where
    one_more : (k n : ℕ) → k + suc n ≡ suc (k + n)
    one_more k n = omega arith

further : (k m : ℕ) → k ≤ m → k + (m - k) ≡ m
further k m h = omega (arith, h)

pub meanings_continue : StorageGrows → MeaningThere → MeaningsContinue
meanings_continue grow there program input k m w formed h e =
    subst (GoesOn program input w) (further k m h) (on grow there program input k (m - k) w formed e)

pub cut_runs_meant : MeaningsContinue → CutRunsMeant
cut_runs_meant go program image signatures formed headline base input done w valid small shown m h =
    let s = headline base input done valid small in
    let same = same_world s.world w (sym s.shows ∙ shown) in
    go program input w.acts m w formed h (subst (λ x. meaning program input x.acts ≡ Some x) same s.keeps.meant)

pub accepted_cut_runs_meant : AcceptedWellFormed → CutRunsMeant → AcceptedCutRunsMeant
accepted_cut_runs_meant formed meant s tokens tree read spelled declares typed image signatures =
    meant (typed_tree tree) image signatures (formed s tokens tree read spelled declares typed)
