-- Each call's promise allows one outcome only: two outcomes that meet it at the same arguments agree in the number, and in every byte of a lent
-- buffer. The promises are taken from the functions' own contracts: `frame.Reads.Post` is what `mirvoncle_frame` ensures. Assumes nothing.
use mathlib.Core.Path.{sym, ◌∙◌}
use Rattle.text.proofs.OneOutcome.{One}
use Rattle.abi.proofs.mirvoncle_frame as frame
use Rattle.abi.proofs.mirvoncle_w26 as w26
use Rattle.abi.proofs.mirvoncle_w36 as w36
use Rattle.abi.proofs.mirvoncle_w36_binary as binary
use Rattle.abi.proofs.mirvoncle_response as response
use Rattle.abi.proofs.mirvoncle_frame_why as frame-why
use Rattle.abi.proofs.mirvoncle_w26_why as w26-why
use Rattle.abi.proofs.mirvoncle_w36_why as w36-why
use Rattle.abi.proofs.mirvoncle_w36_binary_why as binary-why
use Rattle.abi.proofs.mirvoncle_utf8_prefix as utf8-prefix
use Rattle.abi.proofs.mirvoncle_write_data as write-data
use Rattle.abi.proofs.mirvoncle_write_request as write_request
use Rattle.abi.proofs.mirvoncle_write_resend as write_resend
use Rattle.abi.proofs.read.mirvoncle_read_frame as read_frame_lem
use Rattle.abi.proofs.read.mirvoncle_read_w26 as read_w26
use Rattle.abi.proofs.read.mirvoncle_read_w36 as read_w36
use Rattle.abi.proofs.read.mirvoncle_read_w36_binary as read_binary
use Rattle.abi.proofs.read.mirvoncle_read_w36_step as Read-step
use Rattle.abi.proofs.read.mirvoncle_read_response as read_response_lem
use Rattle.abi.proofs.mirvoncle_version_2 as version
use Rattle.abi.proofs.write.mirvoncle_write_packet as write-packet
use Rattle.abi.proofs.write.mirvoncle_write_w26 as write-w26
use Rattle.abi.proofs.write.mirvoncle_write_w36 as write-w36

pub one-frame : One 1 frame.Kinds.ps frame.Kinds.r frame.Reads.Post (λ κs x s. x)
one-frame κs a x y s t p q = p ∙ sym q

pub one-w26 : One 1 w26.Kinds.ps w26.Kinds.r w26.Reads.Post (λ κs x s. x)
one-w26 κs a x y s t p q = p ∙ sym q

pub one-w36 : One 1 w36.Kinds.ps w36.Kinds.r w36.Reads.Post (λ κs x s. x)
one-w36 κs a x y s t p q = p ∙ sym q

pub one-binary : One 1 binary.Kinds.ps binary.Kinds.r binary.Reads.Post (λ κs x s. x)
one-binary κs a x y s t p q = p ∙ sym q

pub one-frame-why : One 1 frame-why.Kinds.ps frame-why.Kinds.r frame-why.Reads.Post (λ κs x s. x)
one-frame-why κs a x y s t p q = p ∙ sym q

pub one-w26-why : One 1 w26-why.Kinds.ps w26-why.Kinds.r w26-why.Reads.Post (λ κs x s. x)
one-w26-why κs a x y s t p q = p ∙ sym q

pub one-w36-why : One 1 w36-why.Kinds.ps w36-why.Kinds.r w36-why.Reads.Post (λ κs x s. x)
one-w36-why κs a x y s t p q = p ∙ sym q

pub one-binary-why : One 1 binary-why.Kinds.ps binary-why.Kinds.r binary-why.Reads.Post (λ κs x s. x)
one-binary-why κs a x y s t p q = p ∙ sym q

pub one-response : One 1 response.Kinds.ps response.Kinds.r response.Reads.Post (λ κs x s. x)
one-response κs a x y s t p q = p ∙ sym q

pub one-utf8-prefix : One 1 utf8-prefix.Kinds.ps utf8-prefix.Kinds.r utf8-prefix.Reads.Post (λ κs x s. x)
one-utf8-prefix κs a x y s t p q = p ∙ sym q

-- of a write the number, and every byte of the lent buffer
pub one-data : One 2 write-data.Kinds.ps write-data.Kinds.r write-data.Reads.Post (λ κs x s. x) × One 2 write-data.Kinds.ps write-data.Kinds.r write-data.Reads.Post (λ κs x s. s.0.now)
one-data = ((λ κs a x y s t p q. p.answers ∙ sym q.answers), λ κs a x y s t p q. p.leaves ∙ sym q.leaves)

pub one_request : One 2 write_request.Kinds.ps write_request.Kinds.r write_request.Reads.Post (λ κs x s. x) × One 2 write_request.Kinds.ps write_request.Kinds.r write_request.Reads.Post (λ κs x s. s.0.now)
one_request = ((λ κs a x y s t p q. p.answers ∙ sym q.answers), λ κs a x y s t p q. p.leaves ∙ sym q.leaves)

pub one_resend : One 1 write_resend.Kinds.ps write_resend.Kinds.r write_resend.Reads.Post (λ κs x s. x) × One 1 write_resend.Kinds.ps write_resend.Kinds.r write_resend.Reads.Post (λ κs x s. s.0.now)
one_resend = ((λ κs a x y s t p q. p.answers ∙ sym q.answers), λ κs a x y s t p q. p.leaves ∙ sym q.leaves)

pub one-write-w26 : One 3 write-w26.Kinds.ps write-w26.Kinds.r write-w26.Reads.Post (λ κs x s. x) × One 3 write-w26.Kinds.ps write-w26.Kinds.r write-w26.Reads.Post (λ κs x s. s.0.now)
one-write-w26 = ((λ κs a x y s t p q. p.answers ∙ sym q.answers), λ κs a x y s t p q. p.leaves ∙ sym q.leaves)

pub one-write-w36 : One 3 write-w36.Kinds.ps write-w36.Kinds.r write-w36.Reads.Post (λ κs x s. x) × One 3 write-w36.Kinds.ps write-w36.Kinds.r write-w36.Reads.Post (λ κs x s. s.0.now)
one-write-w36 = ((λ κs a x y s t p q. p.answers ∙ sym q.answers), λ κs a x y s t p q. p.leaves ∙ sym q.leaves)

pub one-write-packet : One 3 write-packet.Kinds.ps write-packet.Kinds.r write-packet.Reads.Post (λ κs x s. x) × One 3 write-packet.Kinds.ps write-packet.Kinds.r write-packet.Reads.Post (λ κs x s. s.0.now)
one-write-packet = ((λ κs a x y s t p q. p.answers ∙ sym q.answers), λ κs a x y s t p q. p.leaves ∙ sym q.leaves)

-- of a read that hands out, the number, and every number of the lent row
pub one-read_frame : One 2 read_frame_lem.Kinds.ps read_frame_lem.Kinds.r read_frame_lem.Reads.Post (λ κs x s. x) × One 2 read_frame_lem.Kinds.ps read_frame_lem.Kinds.r read_frame_lem.Reads.Post (λ κs x s. s.1.0.now)
one-read_frame = ((λ κs a x y s t p q. p.answers ∙ sym q.answers), λ κs a x y s t p q. p.leaves ∙ sym q.leaves)

pub one_read_w26 : One 2 read_w26.Kinds.ps read_w26.Kinds.r read_w26.Reads.Post (λ κs x s. x) × One 2 read_w26.Kinds.ps read_w26.Kinds.r read_w26.Reads.Post (λ κs x s. s.1.0.now)
one_read_w26 = ((λ κs a x y s t p q. p.answers ∙ sym q.answers), λ κs a x y s t p q. p.leaves ∙ sym q.leaves)

pub one_read_w36 : One 2 read_w36.Kinds.ps read_w36.Kinds.r read_w36.Reads.Post (λ κs x s. x) × One 2 read_w36.Kinds.ps read_w36.Kinds.r read_w36.Reads.Post (λ κs x s. s.1.0.now)
one_read_w36 = ((λ κs a x y s t p q. p.answers ∙ sym q.answers), λ κs a x y s t p q. p.leaves ∙ sym q.leaves)

pub one_read_binary : One 2 read_binary.Kinds.ps read_binary.Kinds.r read_binary.Reads.Post (λ κs x s. x) × One 2 read_binary.Kinds.ps read_binary.Kinds.r read_binary.Reads.Post (λ κs x s. s.1.0.now)
one_read_binary = ((λ κs a x y s t p q. p.answers ∙ sym q.answers), λ κs a x y s t p q. p.leaves ∙ sym q.leaves)

pub one_read_step : One 2 Read-step.Kinds.ps Read-step.Kinds.r Read-step.Reads.Post (λ κs x s. x) × One 2 Read-step.Kinds.ps Read-step.Kinds.r Read-step.Reads.Post (λ κs x s. s.1.1.0.now)
one_read_step = ((λ κs a x y s t p q. p.answers ∙ sym q.answers), λ κs a x y s t p q. p.leaves ∙ sym q.leaves)

pub one-read_response : One 2 read_response_lem.Kinds.ps read_response_lem.Kinds.r read_response_lem.Reads.Post (λ κs x s. x) × One 2 read_response_lem.Kinds.ps read_response_lem.Kinds.r read_response_lem.Reads.Post (λ κs x s. s.1.0.now)
one-read_response = ((λ κs a x y s t p q. p.answers ∙ sym q.answers), λ κs a x y s t p q. p.leaves ∙ sym q.leaves)

pub one_version : One 0 version.Kinds.ps version.Kinds.r version.Reads.Post (λ κs x s. x)
one_version κs a x y s t p q = p ∙ sym q
