-- What a clause sees of octets for SCCP.
use Rattle.relay_base.specs.declared.words.Event.{Event}
use Rattle.relay_base.specs.declared.words.Event.TheVariants.{Message}
use Rattle.m3ua_port.specs.declared.transfer.Transfer.{Transfer}

abbrev pub transfer_seen : Transfer → Event
transfer_seen t = Message t.opc t.sls t.bytes.now
