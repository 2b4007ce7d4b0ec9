-- What deployers and readers hold may go to another thread.
use denote.Param.Send.{IsSend, IsSync, sendable, view_send}
use Rattle.std.proofs.Crossing.{crosses}
use Rattle.left_right.proofs.reader.Reader.TheSendSync as store_reader
use Rattle.left_right.proofs.writer.Writer.TheSendSync as store_writer
use Rattle.logbook.proofs.word.Word.TheSendSync as word
use Rattle.ruleset_model.proofs.Crosses.{config_send, config_sync}
use Rattle.version_store.proofs.book.Law.TheSendSync as law
use Rattle.version_store.proofs.front.Front.TheSendSync as front
use Rattle.version_store.proofs.store.OneBook.TheSendSync as one_book
use Rattle.version_store.specs.contracts.deployed.Deployed as deployed
use Rattle.version_store.specs.contracts.deployer.Deployer as deployer
use Rattle.version_store.specs.contracts.deployer.Deployer.TheInside as deployer_inside
use Rattle.version_store.specs.contracts.deployer.Kept as kept
use Rattle.version_store.specs.contracts.deployer.Kept.TheInside as kept_inside
use Rattle.version_store.specs.contracts.line.Line as line
use Rattle.version_store.specs.contracts.line.Line.TheInside as line_inside
use Rattle.version_store.specs.contracts.reader.VersionReader as reader
use Rattle.version_store.specs.contracts.reader.VersionReader.TheInside as reader_inside
use Rattle.version_store.specs.contracts.version.Version as version

ruleset held = (front.the_send, front.the_sync, config_send, config_sync, crosses, sendable)

deployed_send : IsSend (deployed.the_field).row
deployed_send = search held depth 60 fits 100000

deployed_sync : IsSync (deployed.the_field).row
deployed_sync = search held depth 60 fits 100000

version_send : IsSend (version.the_field).row
version_send = search held depth 60 fits 100000

ruleset shown = (store_reader.the_field_send, store_writer.the_field_send, word.the_send, law.the_field_send, law.the_field_sync, one_book.the_field_send, one_book.the_field_sync, front.the_send, front.the_sync, deployed_send, deployed_sync, version_send, crosses, sendable)

reader_inside_send : IsSend reader_inside.the_row
reader_inside_send = search shown depth 60 fits 100000

pub reader_send : IsSend (reader.the_field).row
reader_send = view_send _ _ _ _ _ reader_inside_send

line_inside_send : IsSend line_inside.the_row
line_inside_send = search shown depth 60 fits 100000

line_send : IsSend (line.the_field).row
line_send = view_send _ _ _ _ _ line_inside_send

kept_inside_send : IsSend kept_inside.the_row
kept_inside_send = search (line_send, crosses, sendable) depth 60 fits 100000

kept_send : IsSend (kept.the_field).row
kept_send = view_send _ _ _ _ _ kept_inside_send

deployer_inside_send : IsSend deployer_inside.the_row
deployer_inside_send = search (kept_send, crosses, sendable) depth 60 fits 100000

pub deployer_send : IsSend (deployer.the_field).row
deployer_send = view_send _ _ _ _ _ deployer_inside_send
