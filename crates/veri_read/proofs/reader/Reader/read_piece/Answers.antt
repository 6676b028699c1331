use Rattle.std.proofs.Common.{refl, sym, ◌∙◌, get_or}
use Rattle.veri_read.specs.Held.{item_of, said_of}
use Rattle.veri_read.proofs.Pieces.{piece_taken, piece_refused}
use Rattle.veri_read.proofs.reader.Reader.read_piece.Goals as goal

pub returns-in-Ok : goal.returns-in-Ok
returns-in-Ok c = piece_taken c.args.at c.front-length.result.1 (get_or c.args.bytes.now c.args.at 0) c.args.bytes.now c.split_at.result.1.now (item_of c.front-length.result.0) (said_of c.args.self.now) (said_of c.step.new.self) tt c.requires.within c.split_at.ensures.back refl
    (sym c.is_blank.ensures ∙ c.if-is_blank.false) c.front-length.ensures.token c.front-length.ensures.long c.in-Ok.ensures

pub returns-in-Err : goal.returns-in-Err
returns-in-Err c = piece_refused c.args.at c.front-length.result.1 (get_or c.args.bytes.now c.args.at 0) c.args.bytes.now c.split_at.result.1.now (item_of c.front-length.result.0) (said_of c.args.self.now) (said_of c.step.new.self) c.in-Err.fault c.requires.within c.split_at.ensures.back refl
    (sym c.is_blank.ensures ∙ c.if-is_blank.false) c.front-length.ensures.token c.front-length.ensures.long c.in-Err.ensures
