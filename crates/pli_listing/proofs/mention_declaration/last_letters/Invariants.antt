use Rattle.std.proofs.Common.{◌≡◌, map, drop}
use Rattle.pli_language.specs.View.{declared_name_of}
use Rattle.pli_listing.specs.Mentions.{last_letters}
use Rattle.pli_listing.proofs.mention_declaration.last_letters.Given as goal

abbrev pub invariant-loop-declared : goal.invariant-loop-declared
invariant-loop-declared l =
    last_letters l.last (map declared_name_of (drop l.declared-index l.names))
    ≡ last_letters l.letters (map declared_name_of l.names)
