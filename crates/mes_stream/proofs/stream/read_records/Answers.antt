use Rattle.mes_stream.specs.RecordValues.{IsRefused}
use Rattle.mes_stream.proofs.ReadingLemmas.{gathers_none, read_through}
use Rattle.mes_stream.proofs.stream.read_records.Goals as goal

pub read_device-end-requires : goal.read_device-end-requires
read_device-end-requires g c = gathers_none g.R.RecordReader.holds g.R.RecordReader.spells g.R.RecordReader.breaks c.new-reading.result c.args.values.now.items

pub returns : goal.returns
returns g c =
    let h = c.read_device-end.ensures in
    let through = read_through g.R.RecordReader.holds g.R.RecordReader.spells (IsRefused g.R.RecordReader.spells g.R.RecordReader.breaks) g.R.RecordReader.kept c.new-reading.result c.read_device-end.new.consumer c.args.values.now.items c.read_device-end.new.to.items c.finish.new.values.items c.args.framing c.args.limit c.args.max_reads
    (g.S.Source.device c.args.reader.now).counts (g.S.Source.device c.read_device-end.new.source).counts (g.S.Source.device c.read_device-end.new.source).bytes h.0 c.read_device-end.result c.finish.result
    c.new-reading.ensures h.2 c.finish.ensures.means in
    (h.0, through.0, h.1, through.1, through.2)
