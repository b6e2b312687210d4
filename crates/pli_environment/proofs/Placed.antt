-- The parts of an image's memory lie in it.
use Rattle.std.proofs.Common.{◌≡◌, ℕ, List, length, refl, sym, subst, arith}
use Rattle.rv_meaning.specs.Machine.{memory_size}
use Rattle.run_keeper.specs.RunKeeper.{run_keeper}
use Rattle.pli_storage.specs.Held.{IsLaid}
use Rattle.pli_values.specs.declared.layout.Layout.{Layout}
use Rattle.pli_environment.specs.Places.{image_layout}

pub image_laid : (code_bytes : ℕ) (m : List ℕ) → length m ≡ memory_size → IsLaid run_keeper (image_layout code_bytes) m
image_laid code_bytes m e = record {
  end_within = omega (arith, e);
  heap_within = omega (arith, e);
  rounded = refl;
  bounded = omega arith;
}

pub laid_as : (l : Layout) (code_bytes : ℕ) (m : List ℕ) → l ≡ image_layout code_bytes → length m ≡ memory_size → IsLaid run_keeper l m
laid_as l code_bytes m same e = subst (λ (it : Layout). IsLaid run_keeper it m) (sym same) (image_laid code_bytes m e)
