pub mod HeldKeys
