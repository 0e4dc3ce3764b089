use Rattle.std.proofs.Common.{refl}
use Rattle.mes_json.proofs.MemberLemmas.{token_taken, left}
use Rattle.mes_json.proofs.reader.Reader.take_after.Goals as goal

pub returns-then-enter_following : goal.returns-then-enter_following
returns-then-enter_following c =
    token_taken c.args.self.now c.enter_following.new.self c.args.bytes.now c.args.from _ c.requires.fits c.requires.inside refl
    (c.enter_following.ensures.gives c.if-enter_following.true) (c.enter_following.ensures.fits c.if-enter_following.true)

pub returns-else-enter_following : goal.returns-else-enter_following
returns-else-enter_following c = left c.args.self.now c.enter_following.new.self c.args.bytes.now c.args.from c.requires.fits c.requires.inside (c.enter_following.ensures.stays c.if-enter_following.false)
