use Rattle.std.proofs.Common.{◌≡◌, refl, arith}
use Rattle.mes_frame.specs.ChunkState.{remaining_of}
use Rattle.mes_frame.proofs.ChunkParts.{fronts_of, no_room_of, empty_run}
use Rattle.mes_frame.proofs.chunk.ChunkState.pass.Goals as goal

pub returns-in-Data-clause-fronts : goal.returns-in-Data-clause-fronts
returns-in-Data-clause-fronts c = λ w body p k. fronts_of _ w body p k _ c.requires.remaining

pub returns-in_default : goal.returns-in_default
returns-in_default c =
    let none : remaining_of c.args.self.now ≡ 0 = no_room_of c.args.self.now c.in_default.not-Data in
    record {
      passes = λ w body p len. empty_run _ w body p (omega arith);
      fronts = λ w body p k. fronts_of _ w body p k _ c.requires.remaining;
      remaining = omega arith;
      end = refl;
    }
