-- A session over the tree of a keyring file may go to another thread: no part of it belongs to one.
use denote.Param.Send.{IsSend, sendable, view_send}
use denote.Param.SendFields.{as_row_send, declared_send, variants_send}
use denote.Struct.Field.{row_field}
use Rattle.std.proofs.Crossing as heap
use Rattle.std.proofs.option.Option.TheSendSync as option
use Rattle.cmm_default.specs.contracts.default_cmm.DefaultCmm as Cmm
use Rattle.cmm_default.proofs.default_cmm.DefaultCmm.TheSendSync as cmm
use Rattle.multi_keyring.specs.contracts.tree.Node as Node
use Rattle.multi_keyring.proofs.tree.Multi.TheLaws.TheKnot as knot
use Rattle.raw_aes_keyring.specs.contracts.raw_aes.RawAes as Raw
use Rattle.raw_aes_keyring.proofs.raw_aes.RawAes.TheSendSync as raw
use Rattle.c_session.specs.contracts.file_session.FileSession as Home
use Rattle.c_session.specs.contracts.file_session.Kept as Kept
use Rattle.c_session.specs.contracts.file_tree.FileTree as Tree
use Rattle.c_session.specs.contracts.file_tree.FileTree.TheInside as inside
use Rattle.c_session.proofs.reason.Reason.TheSendSync as reason
use Rattle.c_session.specs.contracts.session.Session as Session
use Rattle.c_session.proofs.session.Session.TheSendSync as session

-- a tree of raw keys, whose nodes stand in boxes, options and vectors
node : IsSend (Node.the_row Raw.the_row)
node =
    as_row_send (Node.the_field Raw.the_row)
    (knot.send-Node Raw.the_row raw.the_send raw.the_send heap.Box-send
    (knot.send-Multi Raw.the_row (search sendable) (as_row_send Raw.the_field raw.the_send)
    (as_row_send (row_field Raw.the_row) raw.the_send) heap.Box-send option.the_send heap.Vec-send))

tree : IsSend Tree.the_row
tree = view_send _ _ _ _ _ (declared_send inside.the_type (node, tt))

over_tree : IsSend (Session.the_row (Cmm.the_row Tree.the_row))
over_tree = session.the_send (Cmm.the_row Tree.the_row) (cmm.the_send Tree.the_row tree)

kept : IsSend Kept.the_row
kept = variants_send Kept.enum ((reason.the_send, tt), ((over_tree, tt), tt))

pub session_send : IsSend Home.the_row
session_send = declared_send Home.the_type (kept, tt)
