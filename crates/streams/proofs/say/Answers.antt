use Rattle.streams.proofs.Said.{said_in, said_none}
use Rattle.streams.proofs.Taken.{renamed}
use Rattle.streams.proofs.say.Goals as goal

pub returns-in-Some : goal.returns-in-Some
returns-in-Some g c = renamed c.write.result _ _ _ _ (said_in c.args.place.0 c.args.stored c.in-Some.next c.in-Some.is) c.write.ensures.bytes

pub returns-in-None : goal.returns-in-None
returns-in-None g c =
    renamed c.write-in-None.result _ _ _ _ (said_none c.args.place.0 c.args.stored c.in-None.is) c.write-in-None.ensures.bytes
