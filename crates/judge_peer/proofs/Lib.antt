pub mod PeerLaws
