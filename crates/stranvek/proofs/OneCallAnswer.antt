-- "Show that any two results allowed for one call are equal": said of each contract at the boundary of the room, as the
-- checker reads it.
use mathlib.Core.Path.{sym, ◌∙◌}
use Rattle.keys.proofs.OneAnswer.{OneAnswer}
use Rattle.machine.specs.declared.Which.TheVariants.{Writes, Reads}
use Rattle.machine.specs.Calls.{fresh, on, begin, track_keys, track_range, commit, batch, drop_txn}
use Rattle.answers.proofs.OneReply.{OneReply, same_reply}
use Rattle.stranvek.proofs.transaction_manager.stranvek_room_size.Kinds as room-size-kinds
use Rattle.stranvek.proofs.transaction_manager.stranvek_room_size.Reads as room-size
use Rattle.stranvek.proofs.transaction_manager.stranvek_new.Kinds as new-kinds
use Rattle.stranvek.proofs.transaction_manager.stranvek_new.Reads as new
use Rattle.stranvek.proofs.transaction_manager.stranvek_new_transaction.Kinds as new-transaction-kinds
use Rattle.stranvek.proofs.transaction_manager.stranvek_new_transaction.Reads as new-transaction
use Rattle.stranvek.proofs.transaction_manager.stranvek_drop_txn.Kinds as drop-txn-kinds
use Rattle.stranvek.proofs.transaction_manager.stranvek_drop_txn.Reads as drop-txn
use Rattle.stranvek.proofs.transaction_manager.stranvek_track_write_keys.Kinds as track-write-keys-kinds
use Rattle.stranvek.proofs.transaction_manager.stranvek_track_write_keys.Reads as track-write-keys
use Rattle.stranvek.proofs.transaction_manager.stranvek_track_read_keys.Kinds as track-read-keys-kinds
use Rattle.stranvek.proofs.transaction_manager.stranvek_track_read_keys.Reads as track-read-keys
use Rattle.stranvek.proofs.transaction_manager.stranvek_track_read_range.Kinds as track-read-range-kinds
use Rattle.stranvek.proofs.transaction_manager.stranvek_track_read_range.Reads as track-read-range
use Rattle.stranvek.proofs.transaction_manager.stranvek_check_has_conflict.Kinds as check-has-conflict-kinds
use Rattle.stranvek.proofs.transaction_manager.stranvek_check_has_conflict.Reads as check-has-conflict
use Rattle.stranvek.proofs.transaction_manager.stranvek_track_recent_committed_txn.Kinds as track-recent-committed-txn-kinds
use Rattle.stranvek.proofs.transaction_manager.stranvek_track_recent_committed_txn.Reads as track-recent-committed-txn
use Rattle.stranvek.proofs.transaction_manager.stranvek_track_recent_committed_write_batch.Kinds as track-recent-committed-write-batch-kinds
use Rattle.stranvek.proofs.transaction_manager.stranvek_track_recent_committed_write_batch.Reads as track-recent-committed-write-batch
use Rattle.stranvek.proofs.transaction_manager.stranvek_min_active_seq.Kinds as min-active-seq-kinds
use Rattle.stranvek.proofs.transaction_manager.stranvek_min_active_seq.Reads as min-active-seq

pub one_room_size : OneAnswer 0 room-size-kinds.ps room-size-kinds.r room-size.Post
one_room_size κs a x y s t p q = p ∙ sym q

pub one_new : OneReply 1 new-kinds.ps new-kinds.r new.Post (λ κs a. fresh a.1.0) (λ κs x. x) (λ κs s. s.0.now)
one_new κs a x y s t p q = same_reply p q

pub one_new_transaction : OneReply 2 new-transaction-kinds.ps new-transaction-kinds.r new-transaction.Post (λ κs a. on (begin a.1.0.now)) (λ κs x. x) (λ κs s. s.0.now)
one_new_transaction κs a x y s t p q = same_reply p q

pub one_drop_txn : OneReply 2 drop-txn-kinds.ps drop-txn-kinds.r drop-txn.Post (λ κs a. on (drop_txn a.1.0.now)) (λ κs x. x) (λ κs s. s.0.now)
one_drop_txn κs a x y s t p q = same_reply p q

pub one_track_write_keys : OneReply 3 track-write-keys-kinds.ps track-write-keys-kinds.r track-write-keys.Post (λ κs a. on (track_keys Writes a.1.0.now a.1.1.0.now)) (λ κs x. x) (λ κs s. s.0.now)
one_track_write_keys κs a x y s t p q = same_reply p q

pub one_track_read_keys : OneReply 3 track-read-keys-kinds.ps track-read-keys-kinds.r track-read-keys.Post (λ κs a. on (track_keys Reads a.1.0.now a.1.1.0.now)) (λ κs x. x) (λ κs s. s.0.now)
one_track_read_keys κs a x y s t p q = same_reply p q

pub one_track_read_range : OneReply 3 track-read-range-kinds.ps track-read-range-kinds.r track-read-range.Post (λ κs a. on (track_range a.1.0.now a.1.1.0.now)) (λ κs x. x) (λ κs s. s.0.now)
one_track_read_range κs a x y s t p q = same_reply p q

pub one_check_has_conflict : OneAnswer 2 check-has-conflict-kinds.ps check-has-conflict-kinds.r check-has-conflict.Post
one_check_has_conflict κs a x y s t p q = (same_reply p q).answers

pub one_track_recent_committed_txn : OneReply 2 track-recent-committed-txn-kinds.ps track-recent-committed-txn-kinds.r track-recent-committed-txn.Post (λ κs a. on (commit a.1.0.now a.1.1.0)) (λ κs x. x) (λ κs s. s.0.now)
one_track_recent_committed_txn κs a x y s t p q = same_reply p q

pub one_track_recent_committed_write_batch : OneReply 2 track-recent-committed-write-batch-kinds.ps track-recent-committed-write-batch-kinds.r track-recent-committed-write-batch.Post (λ κs a. on (batch a.1.1.0 a.1.0.now)) (λ κs x. x) (λ κs s. s.0.now)
one_track_recent_committed_write_batch κs a x y s t p q = same_reply p q

pub one_min_active_seq : OneAnswer 1 min-active-seq-kinds.ps min-active-seq-kinds.r min-active-seq.Post
one_min_active_seq κs a x y s t p q = (same_reply p q).answers
