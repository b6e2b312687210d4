-- What is known around a piece of code, as the emitters hold it.
use Rattle.std.specs.Prelude.{map}
use Rattle.pli_typing.specs.TypedStatementView.{program_of}
use Rattle.pli_coding.specs.SignatureTable.{table_of}
use Rattle.pli_coding.specs.Environments as E
use Rattle.pli_frames.specs.Parts.{parts}
use Rattle.rv_address.specs.declared.environment.BlockPlace.{BlockPlace}
use Rattle.rv_address.specs.declared.environment.Owner.{Owner}
use Rattle.rv_address.specs.declared.environment.Owner.TheVariants as O
use Rattle.rv_address.specs.declared.environment.Environment.{Environment}

abbrev pub block_place_of : BlockPlace → E.BlockPlace
block_place_of b = record { number = b.number; level = b.level }

abbrev pub owner_of : Owner → E.Owner
owner_of (O.Block b) = E.BlockOwner (block_place_of b)
owner_of O.Unit = E.UnitOwner

abbrev pub environment_of : Environment → E.Environment
environment_of e =
    record {
      program = program_of e.known.now.typed.now;
      parts = parts;
      table = table_of (program_of e.known.now.typed.now);
      blocks = map block_place_of e.blocks.now;
      block = e.block;
      level = e.level;
      owner = owner_of e.owner;
    }
